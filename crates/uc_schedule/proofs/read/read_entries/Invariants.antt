use Rattle.std.proofs.Common.{◌≡◌, ◌+◌, ◌≤◌, ℕ, List, [], length}
use Rattle.uc_schedule.specs.ScheduleText.{entry_limit}
use Rattle.uc_schedule.specs.inner.Reading.{HasRead}
use Rattle.uc_schedule.proofs.TextLemmas.{left_by}
use Rattle.uc_schedule.proofs.read.read_entries.Given as goal

abbrev pub invariant-loop-line : goal.invariant-loop-line
invariant-loop-line l =
    (l.number + length l.lines ≤ l.count + length l.fn.lines) × (l.left ≡ left_by entry_limit l.entries.items)
    × ((params : ℕ) (bytes : List ℕ) (args : List (List ℕ)) → HasRead params l.count l.count bytes l.fn.lines args [] → length args + 1 ≡ l.count → HasRead params l.count l.number bytes l.lines args l.entries.items)

abbrev pub decreases-loop-line : goal.decreases-loop-line
decreases-loop-line l = length l.lines
