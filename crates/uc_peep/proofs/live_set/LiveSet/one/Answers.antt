use Rattle.std.proofs.Common.{◌∙◌, ap}
use Rattle.uc_peep.specs.Sets.{has}
use Rattle.uc_peep.proofs.Bits.{has-pow, one-bit}
use Rattle.uc_peep.proofs.live_set.LiveSet.one.Goals as goal

pub returns : goal.returns
returns c = λ s h. ap (λ x. has x s) (one-bit c.args.bit c.requires) ∙ has-pow c.args.bit s
