-- The contents of a command's inputs.
use Rattle.std.specs.Prelude.{◌≤◌, ℕ, List, [], ◌∷◌, length, map, Vec, ⊤}
use Rattle.std.specs.Global.{Global}
use Rattle.novac_commands.specs.Loading.{Input}

-- the bytes of each
abbrev pub contents_of : List (Vec ℕ Global) → List (List ℕ)
contents_of loaded = map (λ bytes. bytes.items) loaded

-- each has at most as many bytes as its input may have
abbrev pub AreShort : List Input → List (List ℕ) → Type 0
AreShort [] [] = ⊤
AreShort (i ∷ is) (bytes ∷ contents) = (length bytes ≤ i.limit) × AreShort is contents
AreShort _ _ = ⊥
