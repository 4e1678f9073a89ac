use Rattle.std.proofs.Common.{◌≡◌, length, map}
use Rattle.zo_model.specs.Contents.{row_contents}
use Rattle.zo_model.proofs.CostLemmas.{HasRows}
use Rattle.zo_model.proofs.read_text.read_rows.Given as goal

abbrev pub invariant-loop : goal.invariant-loop
invariant-loop l = (length l.rows.items ≡ l.counter) × HasRows l.columns l.initial.reader.lines l.reader.lines (map row_contents l.rows.items) l.initial.reader.number l.reader.number
