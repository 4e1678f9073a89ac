-- what is known of the best vector of a search so far
use Rattle.std.specs.Prelude.{◌≡◌, ℕ, ◌≤◌, Option, Some, None}
use Rattle.zo_model.specs.declared.program.Assignment.{Assignment}
use Rattle.zo_model.specs.declared.program.ZeroOne.{ZeroOne}
use Rattle.zo_cert_tree.specs.declared.cert.Claim.{Claim}
use Rattle.zo_cert_tree.specs.declared.cert.Claim.TheVariants.{Least, Nothing}
use Rattle.zo_solve_dive.specs.Vector.{IsVector, cost_at}
use Rattle.zo_solve_dive.specs.declared.best.Best.{Best}

-- the second claim says no more than the first
abbrev pub IsWeaker : Claim → Claim → Type 0
IsWeaker Nothing c = Unit {0}
IsWeaker (Least t) (Least u) = u ≤ t
IsWeaker (Least t) Nothing = ⊥

-- a vector of cost n is no better than what the claim says
abbrev pub CostsAsMuch : Claim → ℕ → Type 0
CostsAsMuch (Least t) n = t ≤ n
CostsAsMuch Nothing n = ⊥

-- a vector of cost n is better than what the claim says
abbrev pub IsCheaper : Claim → ℕ → Type 0
IsCheaper claim n = ¬ (CostsAsMuch claim n)

-- the claim is about a vector, that costs at most as much as the start
abbrev pub IsAtMostStart : Option ℕ → Claim → Type 0
IsAtMostStart None claim = Unit {0}
IsAtMostStart (Some s) (Least t) = t ≤ s
IsAtMostStart (Some s) Nothing = ⊥

-- the claim is that this vector is best, or that there is none
abbrev pub IsClaimOf : ZeroOne → Option Assignment → Claim → Type 0
IsClaimOf z None claim = claim ≡ Nothing
IsClaimOf z (Some x) claim = IsVector z x × (claim ≡ Least (cost_at z x))

-- what is known of the best vector so far
pub record IsBest (z : ZeroOne) (b : Best) : Type 0 where
  pub claimed : IsClaimOf z b.x b.claim
  pub no_dearer : IsAtMostStart b.start b.claim
