-- Code to which replaced windows lead.
use Rattle.std.specs.Prelude.{◌≡◌, ℕ, List, [], ◌∷◌, ◌++◌, map, Option, Some}
use Rattle.nv_base.specs.declared.term.Bin.TheVariants.{Sub}
use Rattle.uc_isa.specs.declared.instruction.Src.{Src}
use Rattle.uc_isa.specs.declared.instruction.Dst.TheVariants.{Nowhere}
use Rattle.uc_isa.specs.declared.instruction.UnOp.TheVariants.{Copy}
use Rattle.uc_isa.specs.declared.instruction.Instr.{Instr}
use Rattle.uc_isa.specs.declared.instruction.Instr.TheVariants.{Alu, Un}
use Rattle.uc_isa.specs.Relocated.{relocated}
use Rattle.uc_isa.specs.StraightCode.{IsStraight}

-- the answers of a rule
abbrev pub Answers : Type 1
Answers = List Instr → ℕ → Option (List Instr) → Type 0

-- the second code comes of the first where windows are replaced by answers of a rule, one after the other, and branches follow their targets
pub data Rewrites (answers : Answers) : List Instr → List Instr → Type 0 where
  Same : (code : List Instr) → Rewrites answers code code
  Replaced : (front window shorter rest : List Instr) (set : ℕ) → answers window set (Some shorter) → Rewrites answers (front ++ (window ++ rest)) (front ++ (shorter ++ rest))
  Relocated : (f : ℕ → ℕ) (code : List Instr) → Rewrites answers code (map (relocated f) code)
  InTurn : (first second third : List Instr) → Rewrites answers first second → Rewrites answers second third → Rewrites answers first third

-- the instruction compares this operand with another
abbrev pub Compares : Src → Instr → Type 0
Compares x (Alu Nowhere Sub y z) = y ≡ x
Compares x _ = ⊥

-- the second code is the first without some of its straight instructions, and with copies that test an operand in the place of some that compare it; branches
-- follow their targets
pub data IsWithout : List Instr → List Instr → Type 0 where
  Nothing : IsWithout [] []
  Gone : (i : Instr) (code code' : List Instr) → IsStraight i → IsWithout code code' → IsWithout (i ∷ code) code'
  Tested : (i : Instr) (x : Src) (code code' : List Instr) → Compares x i → IsWithout code code' → IsWithout (i ∷ code) (Un Nowhere Copy x ∷ code')
  Stays : (f : ℕ → ℕ) (i : Instr) (code code' : List Instr) → IsWithout code code' → IsWithout (i ∷ code) (relocated f i ∷ code')
