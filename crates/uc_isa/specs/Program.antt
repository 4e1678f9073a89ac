-- Lawful code of at least one instruction, told by what each instruction is and where it stands.
use Rattle.std.specs.Prelude.{◌≡◌, ℕ, ◌≤◌, List, Some, length, slice_get}
use Rattle.uc_isa.specs.Lawful.{Rule1, Rule2, Rule3, Rule4, Rule5, Rule6, Rule7}
use Rattle.uc_isa.specs.declared.instruction.Instr.{Instr}

-- the rules that don't ask where the instruction stands
pub record IsFormed (i : Instr) : Type 0 where
  pub operands : Rule1 i
  pub run_inside : Rule2 i
  pub pairs : Rule3 i
  pub numbers : Rule4 i
  pub halt : Rule6 i

-- all rules, at a place of code of so many instructions
pub record IsLawfulWithin (len place : ℕ) (i : Instr) : Type 0 where
  pub formed : IsFormed i
  pub target : Rule5 len i
  pub last : Rule7 len place i

pub record IsProgram (code : List Instr) : Type 0 where
  pub some : 1 ≤ length code
  pub each : (place : ℕ) (i : Instr) → slice_get code place ≡ Some i → IsLawfulWithin (length code) place i
