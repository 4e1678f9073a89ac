-- Forms of one program, their banks and their code.
use Rattle.std.specs.Prelude.{◌≡◌, ◌≤◌, ℕ, suc, Bool, true, false, List, [], ◌∷◌, Option, Some, None, filter, filter_map, length}
use Rattle.nv_ast.specs.Laws.{sum}
use Rattle.nv_ast.specs.Sizes.{main_words}
use Rattle.nv_ast.specs.Tree.{ProgramTree}
use Rattle.nv_base.specs.Meanings.{KeepsOutcomes, Same}
use Rattle.nv_base.specs.Memories.{Memories}
use Rattle.nv_base.specs.declared.term.Mem.TheVariants.{Sram}
use Rattle.ssu_ir.specs.Meaning.{ssu_meaning, ssu_params}
use Rattle.ssu_ir.specs.Tree.{Label}
use Rattle.ucode_emit.specs.Operations.{Operation}
use Rattle.ucode_emit.specs.Operations.Operation.{Branching, Ending, Immediate, Reading, Writing}
use Rattle.uc_isa.specs.Agrees.{IsStart}
use Rattle.uc_isa.specs.Code.{CodeView}
use Rattle.uc_isa.specs.Engine.{engine}
use Rattle.uc_isa.specs.declared.instruction.Cond.TheVariants.{Always, C, NC, NZ, Z}
use Rattle.novac_words.specs.declared.status.Status.{Status}
use Rattle.novac_words.specs.declared.status.Status.TheVariants.{Done}
use Rattle.nova_back.specs.LeftOut.{LeavesOut}
use Rattle.nova_compile.specs.Forms.{banks_bound, form_bound, HasLargeBanks, HasSmallBanks, IsCodeFor, IsFormOf}
use Rattle.novac_commands.specs.Compiling.{IsCompilable, IsEndOf}
use Rattle.nova_compile.specs.Programs.{HasTyped}
use Rattle.nv_outside.specs.Holding.{Holding}

-- The expanded size of a sum is 9 and its room 18, so 48 * 9 * 26 bounds its form and its code, and 64 times this its banks, which fit with any
-- number of slots.
pub record SumBounds : Type 0 where
  pub form : form_bound sum ≡ 11232
  pub banks : banks_bound sum ≡ 718848
  pub fit : (slots : ℕ) → HasSmallBanks sum slots

-- Forms of one program have the same outcomes, and so has code for it from each start.
pub record OneMeaning : Type 0 where
  pub forms : (program : ProgramTree) (a b : List Label) → IsFormOf program a → IsFormOf program b → KeepsOutcomes (ssu_params a) (ssu_params b) (ssu_meaning a) (ssu_meaning b)
  pub codes : (program : ProgramTree) (c d : CodeView) (args : List ℕ) (p : Memories) (base : ℕ) → IsCodeFor program c → IsCodeFor program d → IsStart (main_words program) args p base → Same (engine c args base p) (engine d args base p)

-- Where the banks of no form are too large, no form has too large ones. A source that must be compiled with these slots and this store can end in no other
-- way than with 0.
pub record NoOtherEnd : Type 0 where
  pub large : (program : ProgramTree) (slots n : ℕ) → HasSmallBanks program slots → HasLargeBanks program slots n → ⊥
  pub done : (held : Holding) (name : List ℕ) (slots store : ℕ) (weights : Option (List ℕ)) (status : Status) (can : IsCompilable held name slots store weights) → HasTyped can.text (λ program. IsEndOf program slots store status) → status ≡ Done

-- of an operation that is neither a computation nor a jump, what stays whatever the code: a read, a write, an end, or a branch by a flag, in one of its two senses
abbrev pub lasting : Operation → Option Operation
lasting (Reading m n) = Some (Reading m n)
lasting (Writing m n) = Some (Writing m n)
lasting (Branching Z) = Some (Branching Z)
lasting (Branching NZ) = Some (Branching Z)
lasting (Branching C) = Some (Branching C)
lasting (Branching NC) = Some (Branching C)
lasting (Ending k n) = Some (Ending k n)
lasting _ = None

-- an operation that is no computation
abbrev pub acts : Operation → Bool
acts (Reading m n) = true
acts (Writing m n) = true
acts (Branching c) = true
acts (Ending k n) = true
acts _ = false

-- how many jumps there are
abbrev pub jumps : List Operation → ℕ
jumps [] = 0
jumps (Branching Always ∷ os) = suc (jumps os)
jumps (o ∷ os) = jumps os

-- All reads, writes, branches by a flag and ends are kept, in order, and nothing is added. Where no jump is left out, branches and jumps stay as they were. An
-- immediate may be left out, and a read may not. A branch may take the other sense where the jump behind it goes.
pub record OnlyComputationsAreLeftOut : Type 0 where
  pub kept : (all rest : List Operation) → LeavesOut all rest → filter_map lasting all ≡ filter_map lasting rest
  pub branches : (all rest : List Operation) → LeavesOut all rest → jumps all ≡ jumps rest → filter acts all ≡ filter acts rest
  pub fewer : (all rest : List Operation) → LeavesOut all rest → length rest ≤ length all
  pub immediate : LeavesOut (Immediate ∷ Ending 0 1 ∷ []) (Ending 0 1 ∷ [])
  pub read : LeavesOut (Reading Sram 1 ∷ Ending 0 1 ∷ []) (Ending 0 1 ∷ []) → ⊥
  pub turned : LeavesOut (Branching Z ∷ Branching Always ∷ Ending 0 1 ∷ []) (Branching NZ ∷ Ending 0 1 ∷ [])
