-- How often short forms enter their labels, and what forms and code do besides moves.
use Rattle.std.specs.Prelude.{◌≡◌, ℕ, List, [], ◌∷◌, codes}
use Rattle.nv_lines.specs.Line.{text_of}
use Rattle.nv_base.specs.Memories.{Memories}
use Rattle.nv_base.specs.declared.term.Mem.TheVariants.{Sram}
use Rattle.nv_base.specs.declared.term.Bin.TheVariants.{Add, Sub}
use Rattle.novac_commands.specs.Counting.{AreCounted}
use Rattle.ssu_ir.specs.Entered.{entered}
use Rattle.ssu_ir.specs.Examples.{sum_of_two, copied_and_added, less_of_two}
use Rattle.ssu_ir.specs.Tree.{Jump, End, Label}
use Rattle.ucode_emit.specs.Operations.{code_operations, form_operations}
use Rattle.ucode_emit.specs.Operations.Operation.{Immediate, Binary, Reading, Writing, Branching, Ending}
use Rattle.uc_isa.specs.Registers.{failing}
use Rattle.uc_isa.specs.Worked.{sum_code, moving_code}
use Rattle.uc_isa.specs.declared.instruction.Cond.TheVariants.{Always}
use Rattle.nv_base.specs.declared.term.Cmp.TheVariants.{Lt}

-- ---- entries

-- a label that jumps to itself for ever
abbrev pub forever : List Label
forever = record { params = []; body = End (Jump 0 []) } ∷ []

-- The start is an entry of label 0, and each jump that is taken one of its label. The less of two parameters takes one jump.
pub record EntriesByJumps : Type 0 where
  pub start : (p : Memories) → entered less_of_two (5 ∷ 7 ∷ []) p 0 0 ≡ 1
  pub none : (p : Memories) → entered less_of_two (5 ∷ 7 ∷ []) p 0 1 ≡ 0
  pub one : (p : Memories) → entered less_of_two (5 ∷ 7 ∷ []) p 1 1 ≡ 1
  pub over : (p : Memories) → entered less_of_two (5 ∷ 7 ∷ []) p 9 1 ≡ 1
  pub again : (p : Memories) → entered forever [] p 9 0 ≡ 10

-- The less of two parameters enters each of its two labels once. One run has one text.
pub record ShortCounts : Type 0 where
  pub less : (p : Memories) → AreCounted less_of_two (5 ∷ 7 ∷ []) p 9 (text_of (codes "weights 2" ∷ codes "l 1" ∷ codes "l 1" ∷ []))
  pub going : (p : Memories) → AreCounted forever [] p 9 (text_of (codes "weights 1" ∷ codes "l 10" ∷ []))
  pub one : (labels : List Label) (args : List ℕ) (p : Memories) (n : ℕ) (text text' : List ℕ) → AreCounted labels args p n text → AreCounted labels args p n text' → text ≡ text'

-- ---- operations

-- Copies and accesses to slots are no operations, and a clone is none. A comparison is a difference, and a branch where it fails.
pub record Operations : Type 0 where
  pub sum_code_does : code_operations sum_code.list ≡ Binary Add ∷ Ending 0 1 ∷ []
  pub moves_do_nothing : code_operations moving_code ≡ Ending 0 2 ∷ []
  pub sum_does : form_operations sum_of_two ≡ Binary Add ∷ Ending 0 1 ∷ []
  pub copies_do_nothing : form_operations copied_and_added ≡ Immediate ∷ Reading Sram 2 ∷ Immediate ∷ Writing Sram 2 ∷ Binary Add ∷ Ending 0 1 ∷ []
  pub labels_in_order : form_operations less_of_two ≡ Binary Sub ∷ Branching (failing Lt) ∷ Branching Always ∷ Branching Always ∷ Ending 0 1 ∷ []
