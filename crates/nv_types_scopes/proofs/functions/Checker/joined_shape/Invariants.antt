use Rattle.std.proofs.Common.{◌≤◌, length, drop}
use Rattle.nv_ast.specs.Outline.{OutlineTrees}
use Rattle.nv_types_table.specs.inner.Layouts.{AreShapes, IsJoined}
use Rattle.nv_types_scopes.specs.inner.Standing.{Keeps}
use Rattle.nv_types_scopes.proofs.functions.Checker.joined_shape.Given as goal

abbrev pub invariant-loop-left : goal.invariant-loop-left
invariant-loop-left l = record {
  within : l.left ≤ length l.shapes;
  keeps : Keeps l.initial.self l.self;
  joined : (os : OutlineTrees) → AreShapes l.initial.self.table (drop l.left l.shapes) os → IsJoined l.self.table l.whole os;
}

abbrev pub decreases-loop-left : goal.decreases-loop-left
decreases-loop-left l = l.left
