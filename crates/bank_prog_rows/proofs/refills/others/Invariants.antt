use Rattle.std.proofs.Common.{◌≡◌, ◌++◌, map, drop}
use Rattle.std.specs.List.{flat_map}
use Rattle.bank_prog_form.specs.inner.Form as form
use Rattle.bank_prog_form.specs.inner.Owners as owners
use Rattle.bank_prog_rows.proofs.refills.others.Given as goal

abbrev pub invariant-loop-x : goal.invariant-loop-x
invariant-loop-x l = l.kept.items ++ flat_map (owners.other (map (λ v. v.var) (map form.value_view l.values))) (drop l.x-index l.xs) ≡ flat_map (owners.other (map (λ v. v.var) (map form.value_view l.values))) l.xs
