use Rattle.std.proofs.Common.{◌≡◌, ℕ, ◌+◌, drop}
use Rattle.ssu_make.specs.inner.Making.{counted}
use Rattle.ssu_make.specs.Uses.{occurs}
use Rattle.ssu_make.proofs.bases.count_all.Given as goal

abbrev pub invariant-loop-a : goal.invariant-loop-a
invariant-loop-a l = (y : ℕ) → occurs (drop l.a-index l.list) y + counted l.counts y ≡ occurs l.list y + counted l.initial.counts y
