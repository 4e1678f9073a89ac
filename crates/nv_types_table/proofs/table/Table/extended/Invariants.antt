use Rattle.std.proofs.Common.{drop}
use Rattle.nv_types_table.specs.inner.Store.{Extends}
use Rattle.nv_types_table.proofs.RowMaking.{GrowsTo}
use Rattle.nv_types_table.proofs.table.Table.extended.Given as goal

abbrev pub invariant-loop-next : goal.invariant-loop-next
invariant-loop-next l = record {
  grows : Extends l.initial.self l.self;
  grown : GrowsTo l.initial.self l.initial.rows.items l.initial.last l.behind l.self l.rows.items l.last (drop l.next-index l.behind);
}
