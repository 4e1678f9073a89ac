use Rattle.std.proofs.Common.{◌≡◌, ℕ, drop}
use Rattle.ssu_make.specs.Uses.{kept, outside}
use Rattle.ssu_make.proofs.counts.Counts.forget.Given as goal

abbrev pub invariant-loop-x : goal.invariant-loop-x
invariant-loop-x l = (y : ℕ) → outside (drop l.x-index l.xs) (kept l.self.map) y ≡ outside l.xs (kept l.initial.self.map) y
