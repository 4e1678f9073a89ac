use Rattle.std.proofs.Common.{◌≡◌, ◌++◌, map, drop}
use Rattle.std.specs.HashMap.{get}
use Rattle.zo_model.specs.Contents.{row_contents}
use Rattle.bank_prog_form.specs.Program.{same_column, row_of}
use Rattle.bank_prog_form.specs.inner.Form.{summary_view}
use Rattle.bank_prog_rows.specs.inner.Waiting.{writes, lists_of}
use Rattle.bank_prog_rows.proofs.waiting.push_writes.Given as goal

abbrev pub invariant-loop-k : goal.invariant-loop-k
invariant-loop-k l =
    map row_contents l.rows.items ++ map (row_of (get same_column l.numbers)) (writes (map summary_view (drop l.k l.summaries)) (lists_of (drop l.k l.words)))
    ≡ map row_contents l.fn.rows.items ++ map (row_of (get same_column l.numbers)) (writes (map summary_view l.summaries) (lists_of l.words))
