use Rattle.std.proofs.Common.{ℕ, ◌+◌, drop}
use Rattle.uc_object.specs.Columns.{Fit, IsFault}
use Rattle.uc_object.proofs.column.first_fault.Given as goal

-- what holds of the rest holds of the whole
abbrev pub invariant-loop-at : goal.invariant-loop-at
invariant-loop-at l = record {
  fit : Fit (drop l.at l.columns) (drop l.at l.bytes) → Fit l.columns l.bytes;
  fault : (k : ℕ) → IsFault (drop l.at l.columns) (drop l.at l.bytes) k → IsFault l.columns l.bytes (l.at + k);
}
