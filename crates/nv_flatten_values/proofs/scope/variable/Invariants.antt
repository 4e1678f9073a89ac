use Rattle.std.proofs.Common.{◌≡◌, ◌≤◌, length, take, []}
use Rattle.nv_flatten_values.specs.inner.Symbols.{symbol_in}
use Rattle.nv_flatten_values.specs.inner.View.{scope_of}
use Rattle.nv_flatten_values.proofs.scope.variable.Given as goal

abbrev pub invariant-loop-i : goal.invariant-loop-i
invariant-loop-i l = (l.i ≤ length l.scope) × (symbol_in (scope_of (take l.i l.scope) []) l.x ≡ symbol_in (scope_of l.scope []) l.x)

abbrev pub decreases-loop-i : goal.decreases-loop-i
decreases-loop-i l = l.i
