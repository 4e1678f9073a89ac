use Rattle.std.proofs.Common.{◌∙◌, ◌&&◌, not, ap}
use Rattle.std.specs.Int.{bit_not, w128}
use Rattle.uc_peep.specs.Sets.{has}
use Rattle.uc_peep.proofs.Bits.{has-and, has-not}
use Rattle.uc_peep.proofs.live_set.LiveSet.without.Goals as goal

pub returns : goal.returns
returns c = λ s h.
    has-and c.self.inside.bits (bit_not w128 c.other.inside.bits) s
    ∙ ap (λ b. has c.self.inside.bits s && b) (has-not c.other.inside.bits c.other.invariant s h)
    ∙ ap (λ x. has x s && not (has c.other.inside.bits s)) c.self.view_is
    ∙ ap (λ x. has c.args.self s && not (has x s)) c.other.view_is
