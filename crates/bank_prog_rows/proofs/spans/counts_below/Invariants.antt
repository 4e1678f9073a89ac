use Rattle.std.proofs.Common.{◌≡◌, ◌≤◌, ℕ, length, get_or}
use Rattle.ssu_ir.specs.Points.{points}
use Rattle.ssu_ir.specs.View.{labels_view}
use Rattle.bank_prog_rows.proofs.Below.{counts}
use Rattle.bank_prog_rows.proofs.spans.counts_below.Given as goal

abbrev pub invariant-loop-k : goal.invariant-loop-k
invariant-loop-k l = record {
  long : length l.below.items ≡ length l.point_ids;
  within : l.k ≤ length l.point_ids;
  done : (j : ℕ) → l.k ≤ j → get_or l.below.items j 0 ≡ get_or (counts (points (labels_view l.s))) j 0;
}

abbrev pub decreases-loop-k : goal.decreases-loop-k
decreases-loop-k l = l.k
