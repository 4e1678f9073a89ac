-- Calls of a store, counts of failures, and what a save changes.
use Rattle.std.specs.Prelude.{◌≡◌, ℕ, ◌-◌, ◌^◌, List, [], ◌∷◌, Some, None, codes, if◌then◌else◌}
use Rattle.std.specs.Str.{bytes_eq}
use Rattle.nv_outside.specs.Calls.{AsksAtMost, Call, Load, Save, IsPart}
use Rattle.nv_outside.specs.Causes.{Rose}
use Rattle.nv_outside.specs.Holding.{AppendsFront, Holding, IsLonger, Replaced}

-- the calls of `asm a o`: a load of a, and then a save of o
abbrev pub two_calls : List Call
two_calls = Load (codes "a") ∷ Save (codes "o") ∷ []

-- each of them may be missing, and none may come twice or before an earlier one
pub record CallsInOrder : Type 0 where
  pub none : IsPart [] two_calls
  pub first : IsPart (Load (codes "a") ∷ []) two_calls
  pub second : IsPart (Save (codes "o") ∷ []) two_calls
  pub twice : IsPart (Load (codes "a") ∷ Load (codes "a") ∷ []) two_calls → ⊥
  pub swapped : IsPart (Save (codes "o") ∷ Load (codes "a") ∷ []) two_calls → ⊥
  pub other : IsPart (Load (codes "b") ∷ []) two_calls → ⊥

-- a store that knows its calls: these calls were made, and no others
abbrev pub OfCalls : List Call → List Call → Type 0
OfCalls state made = state ≡ made

-- on such a store a call that isn't one of the two was not made
pub record OnlyThese : Type 0 where
  pub loaded : AsksAtMost OfCalls [] (Load (codes "a") ∷ []) two_calls
  pub other : AsksAtMost OfCalls [] (Load (codes "b") ∷ []) two_calls → ⊥

-- a count that stays has not risen, but at the end of its type
pub record CountsRise : Type 0 where
  pub more : Rose 0 1
  pub same : Rose 1 1 → ⊥
  pub last : Rose (2 ^ 64 - 1) (2 ^ 64 - 1)

-- a store that has one name, with these bytes
abbrev pub one_file : List ℕ → List ℕ → Holding
one_file name bytes other = if bytes_eq other name then Some bytes else None

-- a save into an empty store leaves one file, and a second save of the same name replaces its bytes
pub record SavesReplace : Type 0 where
  pub first : (name bytes : List ℕ) → Replaced (λ other. None) (one_file name bytes) name bytes
  pub second : (name old new : List ℕ) → Replaced (one_file name old) (one_file name new) name new
  pub long : (name : List ℕ) → IsLonger (one_file name (1 ∷ 2 ∷ [])) name 1
  pub short : (name : List ℕ) → IsLonger (one_file name (1 ∷ 2 ∷ [])) name 2 → ⊥
  pub front : AppendsFront (codes "a") (codes "ab") (codes "bc")
  pub not_front : AppendsFront (codes "a") (codes "ac") (codes "bc") → ⊥
