-- Straight code: instructions that lead to the next place and have to do with no memory.
use Rattle.std.specs.Prelude.{◌≡◌, ℕ, ◌+◌, ⊤, List, [], ◌∷◌, Some, slice_get}
use Rattle.nv_base.specs.Memories.{Memories}
use Rattle.uc_isa.specs.Step.{effect}
use Rattle.uc_isa.specs.Moves.{weight}
use Rattle.uc_isa.specs.declared.instruction.Instr.{Instr}
use Rattle.uc_isa.specs.declared.instruction.Instr.TheVariants.{Alu, Un, Immed, Br}
use Rattle.uc_isa.specs.declared.engine.Engine.{Engine}

abbrev pub IsStraight : Instr → Type 0
IsStraight (Alu d op x y) = ⊤
IsStraight (Un d op x) = ⊤
IsStraight (Immed d v k) = ⊤
IsStraight _ = ⊥

-- the engine after some straight instructions; they neither ask the memories nor change them
abbrev pub along : List Instr → Engine → Memories → Engine
along [] e p = e
along (i ∷ is) e p = along is (effect i e p).engine p

-- what the instructions weigh together
abbrev pub weights : List Instr → ℕ
weights [] = 0
weights (i ∷ is) = weight i + weights is

-- the instruction is a branch to the place
abbrev pub GoesTo : Instr → ℕ → Type 0
GoesTo (Br cond target) y = target ≡ y
GoesTo _ y = ⊥

-- some branch of the code goes to the place
abbrev pub IsEntered : List Instr → ℕ → Type 0
IsEntered code y = (x : ℕ) × (i : Instr) × (slice_get code x ≡ Some i) × GoesTo i y
