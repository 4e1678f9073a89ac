-- The loads and saves that a store is required, and calls in their order.
use Rattle.std.specs.Prelude.{◌≡◌, ◌⊎◌, ℕ, List, [], ◌∷◌, ◌++◌, ◌^◌, ◌-◌, length, min, ⊤}

-- a load or a save of this name
pub data Call : Type 0 where
  Load : (name : List ℕ) → Call
  Save : (name : List ℕ) → Call

-- these calls were made, in this order and behind those before, and no others
abbrev pub Asked : {State Made : Type 0} → (State → List Made → Type 0) → State → State → List Made → Type 0
Asked {Made = Made} history old new made = (before : List Made) → history old before → history new (before ++ made)

-- how many calls there were, up to the end of the type of 64 bits
abbrev pub counted : List Call → ℕ
counted calls = min (length calls) (2 ^ 64 - 1)

-- some of a list, in its order, each at most once
abbrev pub IsPart : {A : Type 0} → List A → List A → Type 0
IsPart [] ys = ⊤
IsPart (x ∷ xs) [] = ⊥
IsPart (x ∷ xs) (y ∷ ys) = ((x ≡ y) × IsPart xs ys) ⊎ IsPart (x ∷ xs) ys

-- no other calls than these were made, in this order, each at most once
abbrev pub AsksAtMost : {State Made : Type 0} → (State → List Made → Type 0) → State → State → List Made → Type 0
AsksAtMost {Made = Made} history old new calls = (made : List Made) × IsPart made calls × Asked history old new made
