use Rattle.std.proofs.Common.{◌≡◌, max, drop}
use Rattle.cps_lower.specs.inner.Lowered.{next_variable}
use Rattle.cps_lower.proofs.scan.variable_above.Given as goal

abbrev pub invariant-loop-x : goal.invariant-loop-x
invariant-loop-x l = max l.next (next_variable (drop l.x-index l.xs)) ≡ next_variable l.xs
