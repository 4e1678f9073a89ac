use Rattle.std.proofs.Common.{◌≡◌, take}
use Rattle.nv_meaning_values.specs.Values.{word_values}
use Rattle.nv_meaning_values.specs.inner.View.{list_values}
use Rattle.nv_meaning_values.proofs.value.tuple_of_words.Given as goal

abbrev pub invariant-loop-w : goal.invariant-loop-w
invariant-loop-w l = list_values l.vs.items ≡ word_values (take l.w-index l.words)
