use Rattle.uc_object.proofs.Spelling.{object-one}
use Rattle.uc_object.proofs.laws.one_object.Goals as goal

pub returns : goal.returns
returns c = object-one
