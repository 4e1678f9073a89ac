use Rattle.std.proofs.Common.{ℕ, ◌<◌}
use Rattle.uc_contexts.specs.Marked.{IsShared}
use Rattle.uc_contexts.proofs.compare.first_shared.Given as goal

abbrev pub invariant-loop-a : goal.invariant-loop-a
invariant-loop-a l = (b : ℕ) → b < l.a → ¬ IsShared l.footprints l.m b
