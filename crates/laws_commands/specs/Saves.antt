-- What two saves leave.
use Rattle.std.specs.Prelude.{◌≡◌, ◌≢◌, ℕ, List, [], ◌∷◌, Some, ⊤}
use Rattle.nv_outside.specs.Holding.{Holding}
use Rattle.novac_machine.specs.Saving.{AreSaved, file, IsCut, IsSameBut}

-- Two files of different names have their bytes, whatever was there, and no other name changed. Where the second save failed, the first file
-- has its bytes, and no other name than the second changed. Where the first failed, no other name changed.
pub record TwoSaves : Type 0 where
  pub both : (old new : Holding) (a b x y : List ℕ) → a ≢ b → AreSaved (file a x ∷ file b y ∷ []) old new → (new a ≡ Some x) × (new b ≡ Some y) × IsSameBut (a ∷ b ∷ []) old new
  pub second : (old new : Holding) (a b x y : List ℕ) → a ≢ b → IsCut ⊤ (file a x ∷ file b y ∷ []) old new (λ name. name ≡ b) → (new a ≡ Some x) × IsSameBut (a ∷ b ∷ []) old new
  pub first : (old new : Holding) (a b x y : List ℕ) → a ≢ b → IsCut ⊤ (file a x ∷ file b y ∷ []) old new (λ name. name ≡ a) → IsSameBut (a ∷ []) old new
