-- What stands in front of the bytes that are left.
use Rattle.std.specs.Prelude.{◌≡◌, ℕ, ◌≤◌, List, [], ◌∷◌, ◌++◌, length, take, drop, Bool, true, Some, ◌⊎◌}
use Rattle.nv_ast.specs.declared.token.Token.{Token}
use Rattle.nv_text.specs.declared.error.TextError.{TextError}
use Rattle.nv_text.specs.declared.error.TextError.TheVariants.{NoMemory}
use Rattle.nv_text.specs.Spelling.{sign_of}
use Rattle.nv_text.specs.Tokens.{FaultHere, Reads}

-- there is a first byte, and it passes the test
abbrev pub First : (ℕ → Bool) → List ℕ → Type 0
First p [] = ⊥
First p (b ∷ bs) = p b ≡ true

-- the first n bytes are the longest sign in front, with the number k
pub record LongestSign (bytes : List ℕ) (k n : ℕ) : Type 0 where
  pub within : n ≤ length bytes
  pub spells : sign_of (take n bytes) ≡ Some k
  pub longest : (w rest : List ℕ) (j : ℕ) → bytes ≡ w ++ rest → sign_of w ≡ Some j → length w ≤ n

-- no sign of n bytes stands in front
pub record NoSignOf (n : ℕ) (bytes : List ℕ) : Type 0 where
  pub none : (w rest : List ℕ) (k : ℕ) → bytes ≡ w ++ rest → length w ≡ n → sign_of w ≡ Some k → ⊥

-- no sign stands in front
pub record NoSign (bytes : List ℕ) : Type 0 where
  pub none : (w rest : List ℕ) (k : ℕ) → bytes ≡ w ++ rest → sign_of w ≡ Some k → ⊥

-- memory exhaustion, or the fault in front
abbrev pub MayFail : List ℕ → ℕ → TextError → Type 0
MayFail bytes at e = (e ≡ NoMemory) ⊎ FaultHere bytes at e

-- these tokens stand before place p, and whatever is read from there on follows them
pub record ReadTo (bytes : List ℕ) (done : List Token) (p : ℕ) : Type 0 where
  pub on : (ts : List Token) (q : ℕ) (left : List ℕ) → Reads p (drop p bytes) ts q left → Reads 0 bytes (done ++ ts) q left
