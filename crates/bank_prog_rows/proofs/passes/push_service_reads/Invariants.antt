use Rattle.std.proofs.Common.{◌≡◌, ◌++◌, map, drop}
use Rattle.std.specs.HashMap.{get}
use Rattle.std.specs.List.{flat_map}
use Rattle.zo_model.specs.Contents.{row_contents}
use Rattle.bank_prog_form.specs.Program.{same_column, row_of}
use Rattle.bank_prog_form.specs.inner.Form as form
use Rattle.bank_prog_rows.proofs.passes.push_service_reads.Given as goal
use Rattle.place_plan.specs.inner.UseViews.{use_view}

abbrev pub invariant-loop-s : goal.invariant-loop-s
invariant-loop-s l =
    map row_contents l.rows.items ++ map (row_of (get same_column l.numbers)) (flat_map (form.service_read (use_view l.u)) (drop l.s-index l.services))
    ≡ map row_contents l.fn.rows.items ++ map (row_of (get same_column l.numbers)) (flat_map (form.service_read (use_view l.u)) l.services)
