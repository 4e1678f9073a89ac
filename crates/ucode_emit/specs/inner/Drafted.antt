-- The code of a whole form with points in its branches.
use Rattle.std.specs.Prelude.{◌≡◌, ℕ, List, map}
use Rattle.uc_isa.specs.declared.instruction.Instr.{Instr}
use Rattle.ssu_ir.specs.Tree.{Label}
use Rattle.place_plan.specs.Plan.{Plan}
use Rattle.ucode_emit.specs.Pieces.{Sequences, items, starts, parallel_moves}
use Rattle.ucode_emit.specs.Emits.{AreSequences, label_starts}
use Rattle.ucode_emit.specs.inner.DraftItems.{draft}

-- for some single moves that do the parallel moves, these instructions are the code, and the points and the labels begin at these places
pub record AreDrafted (labels : List Label) (p : Plan) (code : List Instr) (places begins : List ℕ) : Type 0 where
  pub mss : Sequences
  pub sequences : AreSequences (parallel_moves p labels) mss
  pub code_ : code ≡ map draft (items labels p mss)
  pub places_ : places ≡ starts labels p mss
  pub begins_ : begins ≡ label_starts labels p mss
