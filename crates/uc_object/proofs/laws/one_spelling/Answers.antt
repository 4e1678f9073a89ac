use Rattle.uc_object.proofs.Spelling.{object-same}
use Rattle.uc_object.proofs.laws.one_spelling.Goals as goal

pub returns : goal.returns
returns c = object-same
