-- The form of a name.
use Rattle.std.specs.Prelude.{◌≡◌, ℕ, ◌≤◌, List, [], ◌∷◌, length, ◌⊎◌}

-- a letter or _
abbrev pub IsLetter : ℕ → Type 0
IsLetter b = ((65 ≤ b) × (b ≤ 90)) ⊎ ((97 ≤ b) × (b ≤ 122)) ⊎ (b ≡ 95)

-- a decimal digit
abbrev pub IsDigit : ℕ → Type 0
IsDigit b = (48 ≤ b) × (b ≤ 57)

-- letters, digits and _
abbrev pub Letters : List ℕ → Type 0
Letters [] = Unit {0}
Letters (b ∷ bs) = (IsLetter b ⊎ IsDigit b) × Letters bs

-- a letter or _, then letters, digits and _
abbrev pub IsWord : List ℕ → Type 0
IsWord [] = ⊥
IsWord (b ∷ bs) = IsLetter b × Letters bs

-- a word of at most 64 bytes
abbrev pub IsName : List ℕ → Type 0
IsName bs = IsWord bs × (length bs ≤ 64)
