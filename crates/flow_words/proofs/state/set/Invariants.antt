use Rattle.std.proofs.Common.{◌≡◌, ℕ, ◌+◌, ◌-◌, vec_len}
use Rattle.flow_words.specs.Tables.{look}
use Rattle.flow_words.proofs.state.set.Given as goal

abbrev pub invariant-loop-table : goal.invariant-loop-table
invariant-loop-table l = (y : ℕ) → look l.table.items y ≡ look l.initial.table.items y

abbrev pub decreases-loop-table : goal.decreases-loop-table
decreases-loop-table l = l.i + 1 - vec_len l.table
