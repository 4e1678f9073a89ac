use Rattle.std.proofs.Common.{◌≡◌, take}
use Rattle.nv_meaning_values.specs.inner.View.{list_values, list_named_values}
use Rattle.nv_meaning.proofs.parts.+copied.Given as goal

abbrev pub invariant-copied_all-loop-v : goal.invariant-copied_all-loop-v
invariant-copied_all-loop-v l = list_values l.copy.items ≡ list_values (take l.v-index l.vs)

abbrev pub invariant-copied_fields-loop-field : goal.invariant-copied_fields-loop-field
invariant-copied_fields-loop-field l = list_named_values l.copy.items ≡ list_named_values (take l.field-index l.fields)
