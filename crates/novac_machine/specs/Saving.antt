-- What a command saves: its files, one after the other.
use Rattle.std.specs.Prelude.{◌≡◌, ◌⊎◌, ℕ, List, [], ◌∷◌, Contains, map}
use Rattle.nv_outside.specs.Calls.{Call, Save}
use Rattle.nv_outside.specs.Holding.{Holding, Replaced, SameElsewhere}

-- a file that is saved, with all its bytes
pub record File : Type 0 where
  pub name : List ℕ
  pub bytes : List ℕ

abbrev pub file : List ℕ → List ℕ → File
file name bytes = record { name = name; bytes = bytes }

-- the saves of these files
abbrev pub saves_of : List File → List Call
saves_of files = map (λ f. Save f.name) files

-- all of these files were saved, in this order, and nothing else changed
abbrev pub AreSaved : List File → Holding → Holding → Type 0
AreSaved [] old new = new ≡ old
AreSaved (f ∷ fs) old new = (between : Holding) × Replaced old between f.name f.bytes × AreSaved fs between new

-- the save of one of these files failed, of whose name this holds: those before it have their whole bytes, and no other
-- name changed
abbrev pub IsCut : Type 0 → List File → Holding → Holding → (List ℕ → Type 0) → Type 0
IsCut Tells [] old new P = ⊥
IsCut Tells (f ∷ fs) old new P =
    (P f.name × (Tells → SameElsewhere old new f.name))
    ⊎ ((between : Holding) × (Tells → Replaced old between f.name f.bytes) × IsCut Tells fs between new P)

-- every name that isn't one of these has what it had
abbrev pub IsSameBut : List (List ℕ) → Holding → Holding → Type 0
IsSameBut names old new = (name : List ℕ) → (Contains names name → ⊥) → new name ≡ old name
