use Rattle.std.proofs.Common.{◌≡◌, ◌+◌, ◌-◌, ◌++◌}
use Rattle.nv_ast.specs.Types.{word_parts}
use Rattle.nv_flatten_values.specs.inner.Symbols.{all_fresh, numbers_from}
use Rattle.nv_flatten_values.specs.inner.View.{list_symbols}
use Rattle.nv_flatten_values.proofs.Listing.{all_then}
use Rattle.nv_flatten_values.proofs.forms.tuple_of_words.Given as goal

abbrev pub invariant-loop : goal.invariant-loop
invariant-loop l = record {
  symbols : all_then (list_symbols l.symbols.items) (all_fresh l.next (word_parts (l.n - l.counter))) ≡ all_fresh l.fn.next (word_parts l.n);
  next : l.next ≡ l.fn.next + l.counter;
  made : l.made.items ++ numbers_from l.next (l.n - l.counter) ≡ l.fn.made.items ++ numbers_from l.fn.next l.n;
}
