use Rattle.std.proofs.Common.{◌≡◌, ℕ, ◌+◌, ◌-◌, vec_len}
use Rattle.flow_ir.specs.Substitution.{look}
use Rattle.flow_ir.proofs.names.name.Given as goal

abbrev pub invariant-loop-names : goal.invariant-loop-names
invariant-loop-names l = (y : ℕ) → look l.names.items y ≡ look l.initial.names.items y

abbrev pub decreases-loop-names : goal.decreases-loop-names
decreases-loop-names l = l.i + 1 - vec_len l.names
