use Rattle.std.proofs.Common.{◌≡◌, drop}
use Rattle.nv_meaning_values.specs.Values.{field_named, has_field}
use Rattle.nv_meaning_values.specs.inner.View.{list_named_values}
use Rattle.nv_meaning.proofs.parts.find.Given as goal

abbrev pub invariant-loop-i : goal.invariant-loop-i
invariant-loop-i l = record {
  named : field_named l.x (list_named_values (drop l.i l.fields)) ≡ field_named l.x (list_named_values l.fields);
  has : has_field l.x (list_named_values (drop l.i l.fields)) ≡ has_field l.x (list_named_values l.fields);
}
