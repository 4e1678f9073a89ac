use Rattle.std.proofs.Common.{take}
use Rattle.nv_types_table.specs.inner.Lists.{ArePut}
use Rattle.nv_types_table.specs.inner.Named.{named}
use Rattle.nv_types_table.specs.inner.Store.{Extends}
use Rattle.nv_types_table.proofs.table.Table.single_fields.Given as goal

abbrev pub invariant-loop-entry : goal.invariant-loop-entry
invariant-loop-entry l = record {
  grows : Extends l.initial.self l.self;
  put : ArePut l.initial.self l.self (named (take l.entry-index l.types)) l.lists.items;
}
