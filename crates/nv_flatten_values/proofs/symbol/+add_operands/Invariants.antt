use Rattle.std.proofs.Common.{◌≡◌, ◌++◌, take}
use Rattle.nv_flatten_values.specs.inner.Symbols.{all_operands, named_operands}
use Rattle.nv_flatten_values.specs.inner.View.{list_symbols, list_named_symbols}
use Rattle.nv_flatten_values.proofs.symbol.+add_operands.Given as goal

abbrev pub invariant-add_all_operands-loop-s : goal.invariant-add_all_operands-loop-s
invariant-add_all_operands-loop-s l = l.found.items ≡ l.fn.found.items ++ all_operands (list_symbols (take l.s-index l.ss))

abbrev pub invariant-add_field_operands-loop-field : goal.invariant-add_field_operands-loop-field
invariant-add_field_operands-loop-field l = l.found.items ≡ l.fn.found.items ++ named_operands (list_named_symbols (take l.field-index l.fields))
