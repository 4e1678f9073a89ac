use Rattle.std.proofs.Common.{◌≤◌, ◌-◌, ℕ, List, length}
use Rattle.nv_trace.proofs.Texts.{Front}
use Rattle.nv_trace.proofs.text.count_to_line.Given as goal

abbrev pub invariant-loop-count : goal.invariant-loop-count
invariant-loop-count l = (l.count ≤ length l.made) × ((chains : List (List (List ℕ))) → Front l.source l.line chains l.made l.count)

abbrev pub decreases-loop-count : goal.decreases-loop-count
decreases-loop-count l = length l.made - l.count
