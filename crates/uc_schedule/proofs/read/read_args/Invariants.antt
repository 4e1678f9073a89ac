use Rattle.std.proofs.Common.{◌≡◌, ◌+◌, ◌≤◌, ℕ, List, [], length}
use Rattle.uc_schedule.specs.inner.Reading.{HasRead}
use Rattle.uc_schedule.proofs.read.read_args.Given as goal

abbrev pub invariant-loop-number : goal.invariant-loop-number
invariant-loop-number l =
    (length l.args.items + 1 ≡ l.number) × (length l.lines ≤ length l.fn.lines)
    × ((bytes : List ℕ) → HasRead l.params l.count 1 bytes l.fn.lines [] [] → HasRead l.params l.count l.number bytes l.lines l.args.items [])
