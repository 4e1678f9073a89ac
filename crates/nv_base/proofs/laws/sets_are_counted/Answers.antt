use Rattle.nv_base.proofs.Sets.{different-below, different-append, different-length, different-all}
use Rattle.nv_base.proofs.laws.sets_are_counted.Goals as goal

pub returns-clause-below : goal.returns-clause-below
returns-clause-below c = different-below

pub returns-clause-together : goal.returns-clause-together
returns-clause-together c = different-append

pub returns-clause-length : goal.returns-clause-length
returns-clause-length c = different-length

pub returns-clause-all : goal.returns-clause-all
returns-clause-all c = different-all
