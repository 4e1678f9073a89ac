-- Operations of which some computations are left out.
use Rattle.std.specs.Prelude.{◌≡◌, ⊤, true, List, [], ◌∷◌}
use Rattle.uc_isa.specs.declared.instruction.Cond.{Cond}
use Rattle.uc_isa.specs.declared.instruction.Cond.TheVariants.{Always}
use Rattle.uc_peep_facts.specs.Turned.{asks, opposite}
use Rattle.ucode_emit.specs.Operations.{Operation}
use Rattle.ucode_emit.specs.Operations.Operation.{Immediate, Unary, Binary, Branching}

-- an immediate, or a function of one word or of two
abbrev pub IsComputation : Operation → Type 0
IsComputation Immediate = ⊤
IsComputation (Unary f) = ⊤
IsComputation (Binary o) = ⊤
IsComputation _ = ⊥

-- the second are the first, in order, without some of the computations, where a branch and the jump behind it may stand as the one branch on the opposite condition
pub data LeavesOut : List Operation → List Operation → Type 0 where
  Empty : LeavesOut [] []
  Needless : (o : Operation) (all rest : List Operation) → IsComputation o → LeavesOut all rest → LeavesOut (o ∷ all) rest
  Kept : (o : Operation) (all rest : List Operation) → LeavesOut all rest → LeavesOut (o ∷ all) (o ∷ rest)
  Turned : (c : Cond) (all rest : List Operation) → asks c ≡ true → LeavesOut all rest → LeavesOut (Branching c ∷ Branching Always ∷ all) (Branching (opposite c) ∷ rest)
  InTurn : (first second third : List Operation) → LeavesOut first second → LeavesOut second third → LeavesOut first third
