use Rattle.std.proofs.Common.{◌≡◌, ◌++◌, map, drop}
use Rattle.place_plan.specs.Uses as pure
use Rattle.bank_prog_form.specs.inner.Form.{value_view}
use Rattle.bank_prog_form.proofs.tables.words_read.Given as goal

abbrev pub invariant-loop-i : goal.invariant-loop-i
invariant-loop-i l = map value_view l.values.items ++ pure.numbered l.k (pure.Fetched l.m) l.i (drop l.i l.xs) ≡ pure.numbered l.k (pure.Fetched l.m) 0 l.xs
