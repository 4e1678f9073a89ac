use Rattle.std.proofs.Common.{◌≡◌, ℕ, ◌-◌, ◌≤◌, length, drop}
use Rattle.nv_types_scopes.proofs.scope.Scope.leave.Given as goal

abbrev pub invariant-loop-self : goal.invariant-loop-self
invariant-loop-self l = (k : ℕ) × (l.self ≡ drop k l.initial.self) × (k ≤ length l.initial.self - l.mark)

abbrev pub decreases-loop-self : goal.decreases-loop-self
decreases-loop-self l = length l.self
