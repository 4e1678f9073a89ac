use Rattle.std.proofs.Common.{◌≡◌, ◌++◌, map, drop}
use Rattle.place_plan.specs.Uses as pure
use Rattle.bank_prog_form.specs.inner.Form.{value_view}
use Rattle.bank_prog_form.proofs.tables.params.Given as goal

abbrev pub invariant-loop-i : goal.invariant-loop-i
invariant-loop-i l = map value_view l.values.items ++ pure.numbered l.k (pure.Parameter l.l) l.i (drop l.i l.xs) ≡ pure.numbered l.k (pure.Parameter l.l) 0 l.xs
