-- Code as its readers see it.
use Rattle.std.specs.Prelude.{ℕ, List, length, ◌<◌, ◌≤◌, ◌^◌}
use Rattle.uc_isa.specs.declared.instruction.Instr.{Instr}

-- the number of parameters, and the instructions
pub record CodeView : Type 0 where
  pub params : ℕ
  pub list : List Instr

-- at most 8 parameters, and 1 to 2^31 - 1 instructions
pub record IsCode (c : CodeView) : Type 0 where
  pub params : c.params ≤ 8
  pub some : 1 ≤ length c.list
  pub few : length c.list < 2 ^ 31
