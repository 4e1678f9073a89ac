-- What a command reads: its inputs, one after the other.
use Rattle.std.specs.Prelude.{◌≡◌, ◌≤◌, ◌⊎◌, ℕ, List, [], ◌∷◌, Some, length, map, ⊤}
use Rattle.nv_outside.specs.Calls.{Call, Load}
use Rattle.nv_outside.specs.Holding.{Holding, IsLonger}
pub use Rattle.novac_words.specs.Inputs.{Input, input, inputs_of}
use Rattle.novac_words.specs.declared.refusal.Refusal.{Refusal}
use Rattle.novac_words.specs.declared.refusal.Refusal.TheVariants.{ReadFault, TooLarge}

-- the loads of these inputs
abbrev pub loads_of : List Input → List Call
loads_of inputs = map (λ i. Load i.name) inputs

-- an input has these bytes, at most as many as it may have; they are what the store holds, where it tells
pub record IsRead (Tells : Type 0) (held : Holding) (i : Input) (bytes : List ℕ) : Type 0 where
  pub short : length bytes ≤ i.limit
  pub here : Tells → held i.name ≡ Some bytes

-- the inputs have these contents, one after the other
abbrev pub AreRead : Type 0 → Holding → List Input → List (List ℕ) → Type 0
AreRead Tells held [] [] = ⊤
AreRead Tells held (i ∷ is) (bytes ∷ contents) = IsRead Tells held i bytes × AreRead Tells held is contents
AreRead Tells held _ _ = ⊥

-- this holds of one of the inputs, and those before it are read
abbrev pub StopsAt : Type 0 → Holding → List Input → (Input → Type 0) → Type 0
StopsAt Tells held [] P = ⊥
StopsAt Tells held (i ∷ is) P = P i ⊎ ((bytes : List ℕ) × IsRead Tells held i bytes × StopsAt Tells held is P)

-- an input couldn't be read, and its count rose, or it is too long
abbrev pub IsUnread : Type 0 → Holding → (List ℕ → Type 0) → Refusal → Input → Type 0
IsUnread Tells held Rises (ReadFault name) i = (name.now ≡ i.name) × Rises i.name
IsUnread Tells held Rises (TooLarge n) i = (n ≡ i.limit) × (Tells → IsLonger held i.name i.limit)
IsUnread Tells held Rises _ i = ⊥
