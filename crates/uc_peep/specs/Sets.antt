-- Sets of registers and flags, as the bits of a number.
use Rattle.std.specs.Prelude.{◌≡◌, ℕ, Bool, true, nat_eq}
use Rattle.std.specs.Int.{bit_at}
use Rattle.uc_isa.specs.declared.engine.Engine.{Engine}
use Rattle.uc_isa.specs.Resources.{Resource, IsResource, number, value}

-- it is in the set
abbrev pub has : ℕ → Resource → Bool
has set s = nat_eq (bit_at set (number s)) 1

-- all that is in the first is in the second
abbrev pub IsWithin : ℕ → ℕ → Type 0
IsWithin a b = (s : Resource) → IsResource s → has a s ≡ true → has b s ≡ true

-- two engines have the same in all of a set
pub record AgreeOn (set : ℕ) (e e' : Engine) : Type 0 where
  pub by : (s : Resource) → IsResource s → has set s ≡ true → value s e ≡ value s e'
