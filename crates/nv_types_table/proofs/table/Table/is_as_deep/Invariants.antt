use Rattle.nv_types_table.proofs.RowEdges.{DeepSo}
use Rattle.nv_types_table.proofs.table.Table.is_as_deep.Given as goal

abbrev pub invariant-loop-x : goal.invariant-loop-x
invariant-loop-x l = DeepSo l.self l.fn.a l.fn.b l.a l.b

abbrev pub decreases-loop-x : goal.decreases-loop-x
decreases-loop-x l = l.a
