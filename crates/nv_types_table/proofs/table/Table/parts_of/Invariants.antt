use Rattle.std.proofs.Common.{◌≤◌, length, drop}
use Rattle.nv_ast.specs.Types.{Tys}
use Rattle.nv_types_table.specs.inner.Store.{Extends, IsParts, AreTypes}
use Rattle.nv_types_table.proofs.table.Table.parts_of.Given as goal

abbrev pub invariant-loop-left : goal.invariant-loop-left
invariant-loop-left l = record {
  within : l.left ≤ length l.types;
  grows : Extends l.initial.self l.self;
  made : (ts : Tys) → AreTypes l.initial.self (drop l.left l.types) ts → IsParts l.self l.list ts;
}

abbrev pub decreases-loop-left : goal.decreases-loop-left
decreases-loop-left l = l.left
