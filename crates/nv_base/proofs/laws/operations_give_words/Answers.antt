use Rattle.nv_base.proofs.WordLemmas.{una-fits, bin-fits}
use Rattle.nv_base.proofs.laws.operations_give_words.Goals as goal

pub returns-clause-one : goal.returns-clause-one
returns-clause-one c = una-fits

pub returns-clause-two : goal.returns-clause-two
returns-clause-two c = bin-fits
