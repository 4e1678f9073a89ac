use Rattle.std.proofs.Common.{◌≡◌, ℕ, ◌<◌, false}
use Rattle.reg_assign_reading.specs.inner.Reading.{says, column_of}
use Rattle.reg_assign_reading.proofs.reading.Reading.first_on.Given as goal

abbrev pub invariant-loop-r : goal.invariant-loop-r
invariant-loop-r l = (j : ℕ) → j < l.r → says l.self (column_of l.family j) ≡ false
