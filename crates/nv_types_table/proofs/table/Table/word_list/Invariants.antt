use Rattle.nv_ast.specs.Types.{word_parts}
use Rattle.nv_types_table.specs.inner.Store.{Extends, IsParts}
use Rattle.nv_types_table.proofs.table.Table.word_list.Given as goal

abbrev pub invariant-loop-i : goal.invariant-loop-i
invariant-loop-i l = record {
  grows : Extends l.initial.self l.self;
  made : IsParts l.self l.list (word_parts l.i);
}
