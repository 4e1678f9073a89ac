-- Branches over a jump, and the one branch on the opposite condition in their place.
use Rattle.std.specs.Prelude.{◌≡◌, ℕ, ◌+◌, Bool, true, false, List, [], ◌∷◌, Some, slice_get}
use Rattle.uc_isa.specs.declared.instruction.Cond.{Cond}
use Rattle.uc_isa.specs.declared.instruction.Cond.TheVariants.{Always, Z, NZ, C, NC}
use Rattle.uc_isa.specs.declared.instruction.Instr.{Instr}
use Rattle.uc_isa.specs.declared.instruction.Instr.TheVariants.{Br}
use Rattle.uc_isa.specs.Relocated.{relocated}
use Rattle.uc_isa.specs.Starts.{IsLabelStart}
use Rattle.uc_isa.specs.StraightCode.{IsEntered}

-- it asks a flag
abbrev pub asks : Cond → Bool
asks Always = false
asks Z = true
asks NZ = true
asks C = true
asks NC = true

-- of a condition that asks a flag, the one that holds exactly where it doesn't
abbrev pub opposite : Cond → Cond
opposite Always = Always
opposite Z = NZ
opposite NZ = Z
opposite C = NC
opposite NC = C

-- at a place stands a branch over the jump behind it. Nothing else leads to that jump, and no label starts there or behind it
pub record IsTurnable (code : List Instr) (starts : List ℕ) (x : ℕ) : Type 0 where
  pub condition : Cond
  pub target : ℕ
  pub tests : asks condition ≡ true
  pub branch : slice_get code x ≡ Some (Br condition (x + 2))
  pub jump : slice_get code (x + 1) ≡ Some (Br Always target)
  pub not_entered : ¬ IsEntered code (x + 1)
  pub not_start : ¬ IsLabelStart starts (x + 1)
  pub next_not_start : ¬ IsLabelStart starts (x + 2)

abbrev pub HasNoTurnable : List Instr → List ℕ → Type 0
HasNoTurnable code starts = (x : ℕ) → ¬ IsTurnable code starts x

-- the second code is the first, where some branches and the jumps behind them stand as the one branch on the opposite condition; branches follow
-- their targets
pub data IsTurned : List Instr → List Instr → Type 0 where
  Nothing : IsTurned [] []
  Turned : (c : Cond) (x y z : ℕ) (code code' : List Instr) → asks c ≡ true → IsTurned code code' → IsTurned (Br c x ∷ Br Always y ∷ code) (Br (opposite c) z ∷ code')
  Stays : (f : ℕ → ℕ) (i : Instr) (code code' : List Instr) → IsTurned code code' → IsTurned (i ∷ code) (relocated f i ∷ code')
  InTurn : (first second third : List Instr) → IsTurned first second → IsTurned second third → IsTurned first third
