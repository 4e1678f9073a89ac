use Rattle.std.proofs.Common.{vec_len}
use Rattle.nv_types_table.specs.inner.Rows.{carried}
use Rattle.nv_types_table.specs.inner.Store.{Extends}
use Rattle.nv_types_table.proofs.RowMaking.{ComesTo}
use Rattle.nv_types_table.proofs.table.Table.carry.Given as goal

abbrev pub invariant-loop-before : goal.invariant-loop-before
invariant-loop-before l = record {
  grows : Extends l.initial.self l.self;
  comes : ComesTo carried l.initial.self l.initial.rows.items l.initial.row l.self l.rows.items l.row;
}

abbrev pub decreases-loop-before : goal.decreases-loop-before
decreases-loop-before l = vec_len l.rows
