use Rattle.std.proofs.Common.{◌≤◌, ◌-◌, length}
use Rattle.nova_texts.proofs.steps.count_until.Given as goal

abbrev pub invariant-loop-count : goal.invariant-loop-count
invariant-loop-count l = l.count ≤ length l.events

abbrev pub decreases-loop-count : goal.decreases-loop-count
decreases-loop-count l = length l.events - l.count
