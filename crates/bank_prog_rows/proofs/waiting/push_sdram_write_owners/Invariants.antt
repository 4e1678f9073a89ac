use Rattle.std.proofs.Common.{◌≡◌, ◌++◌, map, drop}
use Rattle.std.specs.HashMap.{get}
use Rattle.std.specs.List.{flat_map}
use Rattle.zo_model.specs.Contents.{row_contents}
use Rattle.bank_prog_form.specs.Program.{same_column, row_of}
use Rattle.bank_prog_rows.specs.inner.Waiting as waits
use Rattle.bank_prog_form.specs.inner.Form.{access_view}
use Rattle.bank_prog_rows.proofs.waiting.push_sdram_write_owners.Given as goal
use Rattle.place_plan.specs.inner.UseViews.{use_view}

abbrev pub invariant-loop-r : goal.invariant-loop-r
invariant-loop-r l =
    map row_contents l.rows.items ++ map (row_of (get same_column l.numbers)) (flat_map (waits.sdram_write_owner (map use_view l.us) (map access_view l.writes)) (drop l.r-index l.rs))
    ≡ map row_contents l.fn.rows.items ++ map (row_of (get same_column l.numbers)) (flat_map (waits.sdram_write_owner (map use_view l.us) (map access_view l.writes)) l.rs)
