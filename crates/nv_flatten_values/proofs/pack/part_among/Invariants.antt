use Rattle.std.proofs.Common.{◌≡◌, drop}
use Rattle.nv_flatten_values.specs.inner.Reads.{has_symbol}
use Rattle.nv_flatten_values.specs.inner.Symbols.{field_named}
use Rattle.nv_flatten_values.specs.inner.View.{list_named_symbols}
use Rattle.nv_flatten_values.proofs.pack.part_among.Given as goal

abbrev pub invariant-loop-field : goal.invariant-loop-field
invariant-loop-field l = record {
  has : has_symbol l.x (list_named_symbols (drop l.field-index l.fields)) ≡ has_symbol l.x (list_named_symbols l.fields);
  named : field_named l.x (list_named_symbols (drop l.field-index l.fields)) ≡ field_named l.x (list_named_symbols l.fields);
}
