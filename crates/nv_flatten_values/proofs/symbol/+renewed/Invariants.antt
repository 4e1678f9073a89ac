use Rattle.std.proofs.Common.{◌≡◌, ◌≤◌, ◌+◌, ◌++◌, take}
use Rattle.nv_ast.specs.Types.{total_words, total_named_words}
use Rattle.nv_flatten_values.specs.inner.Symbols.{forms, named_forms, all_fresh, named_fresh, numbers_from}
use Rattle.nv_flatten_values.specs.inner.View.{list_symbols, list_named_symbols}
use Rattle.nv_flatten_values.proofs.symbol.+renewed.Given as goal

abbrev pub invariant-renewed_all-loop-s : goal.invariant-renewed_all-loop-s
invariant-renewed_all-loop-s l = record {
  symbols : list_symbols l.new.items ≡ all_fresh l.fn.next (forms (list_symbols (take l.s-index l.ss)));
  next : l.next ≡ l.fn.next + total_words (forms (list_symbols (take l.s-index l.ss)));
  made : l.made.items ≡ l.fn.made.items ++ numbers_from l.fn.next (total_words (forms (list_symbols (take l.s-index l.ss))));
  later : l.fn.next ≤ l.next;
}

abbrev pub invariant-renewed_fields-loop-field : goal.invariant-renewed_fields-loop-field
invariant-renewed_fields-loop-field l = record {
  symbols : list_named_symbols l.new.items ≡ named_fresh l.fn.next (named_forms (list_named_symbols (take l.field-index l.fields)));
  next : l.next ≡ l.fn.next + total_named_words (named_forms (list_named_symbols (take l.field-index l.fields)));
  made : l.made.items ≡ l.fn.made.items ++ numbers_from l.fn.next (total_named_words (named_forms (list_named_symbols (take l.field-index l.fields))));
  later : l.fn.next ≤ l.next;
}
