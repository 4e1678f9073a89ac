use Rattle.std.proofs.Common.{◌≡◌, ◌≤◌, length, take, []}
use Rattle.nv_meaning_values.specs.Values.{variable_in}
use Rattle.nv_meaning_values.specs.inner.View.{scope_of}
use Rattle.nv_meaning.proofs.scope.variable.Given as goal

abbrev pub invariant-loop-i : goal.invariant-loop-i
invariant-loop-i l = (l.i ≤ length l.scope) × (variable_in (scope_of (take l.i l.scope) []) l.x ≡ variable_in (scope_of l.scope []) l.x)

abbrev pub decreases-loop-i : goal.decreases-loop-i
decreases-loop-i l = l.i
