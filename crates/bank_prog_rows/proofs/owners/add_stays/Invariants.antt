use Rattle.std.proofs.Common.{◌≡◌, ◌++◌, drop}
use Rattle.std.specs.List.{flat_map}
use Rattle.ssu_ir.specs.View.{labels_view}
use Rattle.bank_prog_form.specs.inner.Owners as owners
use Rattle.bank_prog_rows.proofs.owners.add_stays.Given as goal

abbrev pub invariant-loop-x : goal.invariant-loop-x
invariant-loop-x l = l.cs.items ++ flat_map (owners.value_stays (labels_view l.f.ssu.now) l.sdram l.r) (drop l.x-index l.xs) ≡ l.fn.cs.items ++ flat_map (owners.value_stays (labels_view l.f.ssu.now) l.sdram l.r) l.xs
