use Rattle.std.proofs.Common.{◌≡◌, ◌++◌, map, drop}
use Rattle.std.specs.HashMap.{get}
use Rattle.zo_model.specs.Contents.{row_contents}
use Rattle.ssu_ir.specs.View.{labels_view}
use Rattle.ssu_liveness.specs.LiveRows.{items_of}
use Rattle.bank_prog_form.specs.Program.{same_column, row_of}
use Rattle.bank_prog_form.specs.inner.Owners.{each_row, row_owners}
use Rattle.bank_prog_rows.proofs.owners.push_read_owners.Given as goal

abbrev pub invariant-loop-k : goal.invariant-loop-k
invariant-loop-k l =
    map row_contents l.rows.items ++ map (row_of (get same_column l.numbers)) (each_row (row_owners (labels_view l.f.ssu.now)) l.k (items_of (drop l.k l.held)))
    ≡ map row_contents l.fn.rows.items ++ map (row_of (get same_column l.numbers)) (each_row (row_owners (labels_view l.f.ssu.now)) 0 (items_of l.held))
