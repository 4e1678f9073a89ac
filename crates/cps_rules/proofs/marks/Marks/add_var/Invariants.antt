use Rattle.std.proofs.Common.{◌≡◌, ℕ, ◌+◌, ◌-◌, vec_len}
use Rattle.std.specs.Prelude.{slice_index_or}
use Rattle.cps_rules.proofs.marks.Marks.add_var.Given as goal

abbrev pub invariant-loop-self : goal.invariant-loop-self
invariant-loop-self l =
    ((y : ℕ) → slice_index_or l.self.rounds.items y 0 ≡ slice_index_or l.initial.self.rounds.items y 0)
    × (l.self.round ≡ l.initial.self.round)

abbrev pub decreases-loop-self : goal.decreases-loop-self
decreases-loop-self l = l.i + 1 - vec_len l.self.rounds
