use Rattle.std.proofs.Common.{◌≡◌, ◌++◌, ◌+◌, map, drop}
use Rattle.std.specs.HashMap.{get}
use Rattle.zo_model.specs.Contents.{row_contents}
use Rattle.ssu_ir.specs.View.{labels_view}
use Rattle.ssu_liveness.specs.LiveRows.{items_of}
use Rattle.bank_prog_form.specs.Program.{same_column, row_of}
use Rattle.bank_prog_form.specs.inner.Form.{summary_view}
use Rattle.bank_prog_form.specs.inner.Owners.{fills, rest}
use Rattle.bank_prog_rows.proofs.refills.push_fills.Given as goal

abbrev pub invariant-loop-k : goal.invariant-loop-k
invariant-loop-k l =
    map row_contents l.rows.items ++ map (row_of (get same_column l.numbers)) (fills (labels_view l.f.ssu.now) (map summary_view (drop l.k l.summaries)) (items_of (drop (l.k + 1) l.held)))
    ≡ map row_contents l.fn.rows.items ++ map (row_of (get same_column l.numbers)) (fills (labels_view l.f.ssu.now) (map summary_view l.summaries) (rest (items_of l.held)))
