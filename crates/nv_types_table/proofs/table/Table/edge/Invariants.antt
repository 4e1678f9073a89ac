use Rattle.nv_types_table.proofs.RowEdges.{EdgeSo}
use Rattle.nv_types_table.proofs.table.Table.edge.Given as goal

abbrev pub invariant-loop-left : goal.invariant-loop-left
invariant-loop-left l = EdgeSo l.self l.list l.rows.items l.last

abbrev pub decreases-loop-left : goal.decreases-loop-left
decreases-loop-left l = l.last
