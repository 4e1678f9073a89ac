use Rattle.std.proofs.Common.{◌≡◌, take}
use Rattle.nv_flatten_values.specs.inner.Symbols.{word_symbols}
use Rattle.nv_flatten_values.specs.inner.View.{list_symbols}
use Rattle.nv_flatten_values.proofs.symbol.tuple_of_words.Given as goal

abbrev pub invariant-loop-w : goal.invariant-loop-w
invariant-loop-w l = list_symbols l.ss.items ≡ word_symbols (take l.w-index l.words)
