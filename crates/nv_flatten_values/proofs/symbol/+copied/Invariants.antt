use Rattle.std.proofs.Common.{◌≡◌, take}
use Rattle.nv_flatten_values.specs.inner.View.{list_symbols, list_named_symbols}
use Rattle.nv_flatten_values.proofs.symbol.+copied.Given as goal

abbrev pub invariant-copied_all-loop-s : goal.invariant-copied_all-loop-s
invariant-copied_all-loop-s l = list_symbols l.copy.items ≡ list_symbols (take l.s-index l.ss)

abbrev pub invariant-copied_fields-loop-field : goal.invariant-copied_fields-loop-field
invariant-copied_fields-loop-field l = list_named_symbols l.copy.items ≡ list_named_symbols (take l.field-index l.fields)
