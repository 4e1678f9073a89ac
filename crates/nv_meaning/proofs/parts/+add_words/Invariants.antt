use Rattle.std.proofs.Common.{◌≡◌, ◌++◌, take}
use Rattle.nv_meaning_values.specs.Values.{all_words, all_named_words}
use Rattle.nv_meaning_values.specs.inner.View.{list_values, list_named_values}
use Rattle.nv_meaning.proofs.parts.+add_words.Given as goal

abbrev pub invariant-add_all_words-loop-v : goal.invariant-add_all_words-loop-v
invariant-add_all_words-loop-v l = l.words.items ≡ l.fn.words.items ++ all_words (list_values (take l.v-index l.vs))

abbrev pub invariant-add_field_words-loop-field : goal.invariant-add_field_words-loop-field
invariant-add_field_words-loop-field l = l.words.items ≡ l.fn.words.items ++ all_named_words (list_named_values (take l.field-index l.fields))
