use Rattle.std.proofs.Common.{◌≡◌, max, drop}
use Rattle.ssu_liveness.specs.LiveRows.{items_of}
use Rattle.ssu_liveness.specs.inner.Live.{longest}
use Rattle.ssu_liveness.proofs.rows.longest_row.Given as goal

abbrev pub invariant-loop-row : goal.invariant-loop-row
invariant-loop-row l = max l.most (longest (items_of (drop l.row-index l.rows))) ≡ longest (items_of l.rows)
