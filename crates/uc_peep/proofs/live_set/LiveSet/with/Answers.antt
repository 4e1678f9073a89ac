use Rattle.std.proofs.Common.{◌∙◌, ◌≤◌, bit_or, ap, subst}
use Rattle.std.proofs.lemmas.Nat.{le_or_l, or_lt}
use Rattle.uc_peep.specs.Sets.{has}
use Rattle.uc_peep.proofs.Bits.{has-or}
use Rattle.uc_peep.proofs.live_set.LiveSet.with.Goals as goal

pub returns-clause-either : goal.returns-clause-either
returns-clause-either c = λ s. ap (λ x. has (bit_or x c.other.inside.bits) s) c.self.view_is ∙ ap (λ x. has (bit_or c.args.self x) s) c.other.view_is ∙ has-or c.args.self c.args.other s

pub returns-clause-more : goal.returns-clause-more
returns-clause-more c = subst (λ x. x ≤ bit_or c.self.inside.bits c.other.inside.bits) c.self.view_is (le_or_l c.self.inside.bits c.other.inside.bits)

pub invariant_of-result : goal.invariant_of-result
invariant_of-result c = or_lt 128 c.self.inside.bits c.other.inside.bits c.self.invariant c.other.invariant

pub returns-clause-small : goal.returns-clause-small
returns-clause-small c = or_lt 128 c.self.inside.bits c.other.inside.bits c.self.invariant c.other.invariant
