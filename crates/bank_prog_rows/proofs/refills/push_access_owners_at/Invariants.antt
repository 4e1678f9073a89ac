use Rattle.std.proofs.Common.{◌≡◌, ◌++◌, map, drop}
use Rattle.std.specs.HashMap.{get}
use Rattle.std.specs.List.{flat_map}
use Rattle.zo_model.specs.Contents.{row_contents}
use Rattle.bank_prog_form.specs.Program.{same_column, row_of}
use Rattle.bank_prog_form.specs.inner.Form as form
use Rattle.bank_prog_form.specs.inner.Owners as owners
use Rattle.ssu_ir.specs.View.{labels_view}
use Rattle.bank_prog_rows.proofs.refills.push_access_owners_at.Given as goal

abbrev pub invariant-loop-r : goal.invariant-loop-r
invariant-loop-r l =
    map row_contents l.rows.items ++ map (row_of (get same_column l.numbers)) (flat_map (owners.access_owner (labels_view l.f.ssu.now) l.xs (form.access_view l.a)) (drop l.r-index l.rs))
    ≡ map row_contents l.fn.rows.items ++ map (row_of (get same_column l.numbers)) (flat_map (owners.access_owner (labels_view l.f.ssu.now) l.xs (form.access_view l.a)) l.rs)
