-- What a walk answers: nothing, or the first of some faults.
use Rattle.std.specs.Prelude.{◌≡◌, List, [], ◌∷◌, Option, None, Some, Result, Ok, Err}
use Rattle.nv_ast.specs.Faults.{Fault as FaultAt}
use Rattle.nv_types_table.specs.declared.error.TypeError.{TypeError}
use Rattle.nv_types_table.specs.declared.error.TypeError.TheVariants.{NoMemory, Fault, TooLarge}

-- the first of some faults; memory exhaustion says nothing of them
abbrev pub IsFirstOf : List FaultAt → TypeError → Type 0
IsFirstOf faults NoMemory = Unit {0}
IsFirstOf faults (Fault kind s) = (later : List FaultAt) × (faults ≡ (kind, s) ∷ later)
IsFirstOf faults (TooLarge n) = ⊥

-- no fault where it is done, else the first
abbrev pub Judges : {T : Type 0} → List FaultAt → Result T TypeError → Type 0
Judges faults (Ok x) = faults ≡ []
Judges faults (Err e) = IsFirstOf faults e

-- the first of a list, if there is one
abbrev pub first : {A : Type 0} → List A → Option A
first [] = None
first (x ∷ xs) = Some x
