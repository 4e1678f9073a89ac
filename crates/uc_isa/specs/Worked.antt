-- What the definitions give of short code.
use Rattle.std.specs.Prelude.{◌≡◌, List, [], ◌∷◌}
use Rattle.nv_base.specs.declared.term.Mem.TheVariants.{Scratch}
use Rattle.nv_base.specs.declared.term.Bin.TheVariants.{Add}
use Rattle.nv_base.specs.declared.outcome.Outcome.TheVariants as outcome
use Rattle.nv_base.specs.Memories.{Memories}
use Rattle.uc_isa.specs.Code.{CodeView}
use Rattle.uc_isa.specs.Engine.{engine}
use Rattle.uc_isa.specs.Moves.{moves}
use Rattle.uc_isa.specs.declared.instruction.Src.TheVariants as src
use Rattle.uc_isa.specs.declared.instruction.Dst.TheVariants as dst
use Rattle.uc_isa.specs.declared.instruction.Gpr.TheVariants as gpr
use Rattle.uc_isa.specs.declared.instruction.UnOp.TheVariants.{Copy}
use Rattle.uc_isa.specs.declared.instruction.Instr.{Instr}
use Rattle.uc_isa.specs.declared.instruction.Instr.TheVariants.{Alu, Un, Read, Write, Halt}

-- the second argument is brought to bank B, and the sum of both is the result
abbrev pub sum_code : CodeView
sum_code = record { params = 2; list = Un (dst.B 0) Copy (src.A 1) ∷ Alu (dst.A 0) Add (src.A 0) (src.B 0) ∷ Halt 0 1 ∷ [] }

-- on 5 and 7 the third step ends with 12, whatever the memories hold, and before it the run goes on
pub record SumRuns : Type 0 where
  pub ended : (p : Memories) → engine sum_code (5 ∷ 7 ∷ []) 512 p 3 ≡ record { outcome = outcome.Ended (12 ∷ []); packet = p; writes = [] }
  pub going : (p : Memories) → engine sum_code (5 ∷ 7 ∷ []) 512 p 2 ≡ record { outcome = outcome.Going; packet = p; writes = [] }

-- moves within and out of bank A, through A15, and through a slot of scratch
abbrev pub moving_code : List Instr
moving_code =
    Un (dst.A 15) Copy (src.A 0)
    ∷ Un (dst.B 0) Copy (src.A 1)
    ∷ Un (dst.S 0) Copy (src.A 2)
    ∷ Write Scratch 0 1 (gpr.B 15) 3
    ∷ Read Scratch 0 1 (gpr.B 15) 3
    ∷ Un (dst.A 1) Copy (src.L 0)
    ∷ Un (dst.A 2) Copy (src.A 3)
    ∷ Halt 0 2
    ∷ []

-- one label of weight 1 costs 0 + 1 + 1 + 16 + 16 + 1 + 0, and where the last four stand in a label of weight 10,
-- after one of weight 2, it is 2 * 18 + 10 * 17; a label without a weight counts once
pub record MovesCost : Type 0 where
  pub plain : moves moving_code [] [] ≡ 35
  pub weighted : moves moving_code (0 ∷ 4 ∷ []) (2 ∷ 10 ∷ []) ≡ 206
  pub without : moves moving_code (0 ∷ 4 ∷ []) (2 ∷ []) ≡ 53
