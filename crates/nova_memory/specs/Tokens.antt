-- What parts the tokens of a readable text.
use Rattle.std.specs.Prelude.{◌≡◌, ◌⊎◌, ℕ, List, [], ◌∷◌}

-- a blank, a tab, a carriage return or a line feed
abbrev pub IsBlank : ℕ → Type 0
IsBlank b = (b ≡ 32) ⊎ (b ≡ 9) ⊎ (b ≡ 13) ⊎ (b ≡ 10)

-- the bytes end, or a blank is the first of them
abbrev pub IsApart : List ℕ → Type 0
IsApart [] = Unit {0}
IsApart (b ∷ bs) = IsBlank b

-- the bytes end, or a line does
abbrev pub IsLineEnd : List ℕ → Type 0
IsLineEnd [] = Unit {0}
IsLineEnd (b ∷ bs) = b ≡ 10

-- `#` or `//` begins a comment
abbrev pub BeginsComment : List ℕ → Type 0
BeginsComment [] = ⊥
BeginsComment (b ∷ []) = b ≡ 35
BeginsComment (b ∷ c ∷ bs) = (b ≡ 35) ⊎ ((b ≡ 47) × (c ≡ 47))
