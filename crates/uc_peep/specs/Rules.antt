-- What a stored closure may answer.
use Rattle.std.specs.Prelude.{◌≡◌, ℕ, List, Option, Some, None, ◌⊎◌}
use Rattle.std.proofs.Common.{inl, inr}
use Rattle.std.specs.Borrow.{Bor}
use Rattle.std.specs.Fn.{Shared, FnReturns}
use Rattle.uc_isa.specs.declared.instruction.Instr.{Instr}
use Rattle.uc_peep.specs.Window.{IsShorter}

-- f may return, at a `&` to x and one to y, a result that is as P says
pub record Gives {F S T R : Type 0} (g : Shared F (Bor S × (Bor T × Unit {0})) R) (f : F) (x : S) (y : T) (P : R → Type 0) : Type 0 where
  pub first : Bor S
  pub second : Bor T
  pub result : R
  pub shows : (first.now ≡ x) × (second.now ≡ y)
  pub says : FnReturns g f (first, (second, tt)) result
  pub holds : P result

abbrev pub IsSomeOf : Option (List Instr) → Type 0
IsSomeOf o = (shorter : List Instr) × (o ≡ Some shorter)

-- the second of two is asked only where the first has no answer
pub pair_sound : (ws : List Instr) (set : ℕ) (shorter : List Instr) (A B : Option (List Instr) → Type 0) → (A (Some shorter) → IsShorter ws set shorter) → (B (Some shorter) → IsShorter ws set shorter)
    → (IsSomeOf (Some shorter) × A (Some shorter)) ⊎ (A None × B (Some shorter)) → IsShorter ws set shorter
pair_sound ws set shorter A B f g (inl h) = f h.1
pair_sound ws set shorter A B f g (inr h) = g h.1
