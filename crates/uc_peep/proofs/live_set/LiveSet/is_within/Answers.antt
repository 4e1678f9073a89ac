use Rattle.std.proofs.Common.{sym, ◌∙◌, ap}
use Rattle.uc_peep.specs.Sets.{has}
use Rattle.uc_peep.proofs.Bits.{within-and}
use Rattle.uc_peep.proofs.live_set.LiveSet.is_within.Goals as goal

pub returns : goal.returns
returns c = λ t s h in_a. ap (λ x. has x s) (sym c.other.view_is) ∙ within-and c.self.inside.bits c.other.inside.bits t s h (ap (λ x. has x s) c.self.view_is ∙ in_a)
