use Rattle.std.proofs.Common.{◌+◌, ◌*◌}
use Rattle.flat_ir.specs.declared.flat.Flat.{size-Flat}
use Rattle.cps_lower.proofs.Along.{On}
use Rattle.cps_lower.proofs.lowering.+code.Given as goal

abbrev pub invariant-lower_steps-spine : goal.invariant-lower_steps-spine
invariant-lower_steps-spine l = On l.funs l.own l.t l.initial.fresh l.to l.hs l.initial.steps.items l.steps.items l.cur l.fresh

abbrev pub decreases-lower_steps-spine : goal.decreases-lower_steps-spine
decreases-lower_steps-spine l = size-Flat l.cur

abbrev pub decreases-lower_steps : goal.decreases-lower_steps
decreases-lower_steps l = 2 * size-Flat l.t.now

abbrev pub decreases-lower_code : goal.decreases-lower_code
decreases-lower_code l = 2 * size-Flat l.t.now + 1
