use Rattle.std.proofs.Common.{◌≡◌, ◌+◌, ◌++◌}
use Rattle.nv_flatten_values.specs.inner.Code.{variables}
use Rattle.nv_flatten_values.specs.inner.Symbols.{numbers_from}
use Rattle.nv_flatten_values.proofs.parts.new_variables.Given as goal

abbrev pub invariant-loop : goal.invariant-loop
invariant-loop l = record {
  numbered : l.vars.items ≡ numbers_from l.fn.next l.counter;
  words : l.words.items ≡ l.fn.words.items ++ variables (numbers_from l.fn.next l.counter);
  next : l.next ≡ l.fn.next + l.counter;
}
