use Rattle.std.proofs.Common.{◌≡◌, ◌≤◌, ℕ, length, map, drop, nat_eq}
use Rattle.std.specs.HashMap.{get}
use Rattle.bank_prog_form.specs.inner.Form.{value_view}
use Rattle.bank_prog.specs.Weighted.{point_in}
use Rattle.bank_prog.specs.inner.Located.{known_point}
use Rattle.bank_prog.proofs.weighing.defining_points.Given as goal

abbrev pub invariant-loop-i : goal.invariant-loop-i
invariant-loop-i l = record {
  within : l.i ≤ length l.values;
  made : (x : ℕ) → known_point (get nat_eq l.points x) ≡ point_in (map value_view (drop l.i l.values)) x;
}

abbrev pub decreases-loop-i : goal.decreases-loop-i
decreases-loop-i l = l.i
