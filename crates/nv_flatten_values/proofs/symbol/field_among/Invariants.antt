use Rattle.std.proofs.Common.{◌≡◌}
use Rattle.nv_flatten_values.specs.inner.Symbols.{field_named}
use Rattle.nv_flatten_values.specs.inner.View.{list_named_symbols}
use Rattle.nv_flatten_values.proofs.symbol.field_among.Given as goal

abbrev pub invariant-loop-field : goal.invariant-loop-field
invariant-loop-field l = field_named l.x (list_named_symbols l.field-iterator.rest.items) ≡ field_named l.x (list_named_symbols l.fn.fields.items)
