-- Parts of an object: those that were read, and the first place that none of them has.
use Rattle.std.specs.Prelude.{◌≡◌, ◌≢◌, ℕ, ◌+◌, ◌<◌, ◌≤◌, List, ◌++◌, length, take, drop}
use Rattle.uc_object.specs.Object.{AreEach}

-- the bytes of some thing
abbrev pub Spells : {T : Type 0} → (T → List ℕ → Type 0) → List ℕ → Type 0
Spells {T} Is bytes = (x : T) × Is x bytes

-- the bytes of so many things, one after another
abbrev pub Many : {T : Type 0} → (T → List ℕ → Type 0) → ℕ → List T → List ℕ → Type 0
Many Is count xs bytes = (length xs ≡ count) × AreEach Is xs bytes

-- the bytes begin with so many things, and the rest follows
pub record Has {T : Type 0} (Is : T → List ℕ → Type 0) (count : ℕ) (xs : List T) (bytes rest : List ℕ) : Type 0 where
  pub part : List ℕ
  pub layout : bytes ≡ part ++ rest
  pub many : Many Is count xs part

-- the bytes of these things were added
abbrev pub Adds : {T : Type 0} → (T → List ℕ → Type 0) → List T → List ℕ → List ℕ → Type 0
Adds Is xs old new = (part : List ℕ) × (new ≡ old ++ part) × AreEach Is xs part

-- the first place such that no bytes of the form go on so, and none end before it
pub record IsFaultOf (Form : List ℕ → Type 0) (bytes : List ℕ) (at : ℕ) : Type 0 where
  pub inside : at ≤ length bytes
  pub before : (rest : List ℕ) × Form (take at bytes ++ rest)
  pub here : at < length bytes → (word more rest : List ℕ) → Form word → take (at + 1) bytes ++ more ≢ word ++ rest
  pub short : at ≡ length bytes → (word rest : List ℕ) → Form word → bytes ≢ word ++ rest

-- the first place that no bytes of so many things have, where these begin at a start
abbrev pub IsFaultAfter : {T : Type 0} → (T → List ℕ → Type 0) → ℕ → List ℕ → ℕ → ℕ → Type 0
IsFaultAfter Is count bytes start at = (k : ℕ) × (at ≡ start + k) × IsFaultOf (Spells (Many Is count)) (drop start bytes) k
