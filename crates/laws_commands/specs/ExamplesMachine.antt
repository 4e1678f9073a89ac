-- Contexts that take turns, code that uses slots, and needless instructions, in short code.
use Rattle.std.specs.Prelude.{◌≡◌, List, [], ◌∷◌, Some, None, codes, map}
use Rattle.nv_lines.specs.Line.{text_of}
use Rattle.nv_base.specs.Memories.{blank}
use Rattle.nv_base.specs.declared.outcome.Outcome.{Outcome}
use Rattle.nv_base.specs.declared.outcome.Outcome.TheVariants as outcome
use Rattle.nv_base.specs.declared.term.Bin.TheVariants.{Sub}
use Rattle.nv_base.specs.declared.term.Mem.TheVariants.{Sram}
use Rattle.uc_isa.specs.Code.{CodeView}
use Rattle.uc_isa.specs.declared.instruction.Src.TheVariants as src
use Rattle.uc_isa.specs.declared.instruction.Dst.TheVariants as dst
use Rattle.uc_isa.specs.declared.instruction.Gpr.TheVariants as gpr
use Rattle.uc_isa.specs.declared.instruction.UnOp.TheVariants.{Copy}
use Rattle.uc_isa.specs.declared.instruction.Cond.TheVariants.{Z}
use Rattle.uc_isa.specs.declared.instruction.Instr.{Instr}
use Rattle.uc_isa.specs.declared.instruction.Instr.TheVariants.{Alu, Un, Immed, Br, Read, Write, Halt}
use Rattle.uc_isa.specs.Registers.Register.{InA, InB}
use Rattle.uc_isa.specs.Worked.{moving_code}
use Rattle.uc_contexts.specs.Turns.{System, entries, scheduled, started}
use Rattle.uc_contexts.specs.Alone.{all_alone, lone_runs, own_entries}
use Rattle.uc_isa.specs.Resources.{Live}
use Rattle.uc_isa.specs.Resources.Resource.{In, Zero}
use Rattle.uc_isa.specs.StraightCode.{IsEntered}
use Rattle.uc_object.specs.Worked.{raising}
use Rattle.uc_object.specs.Object.{exception_of, code_of}
use Rattle.uc_object.specs.declared.object.Object.TheVariants.{One, Two}
use Rattle.uc_asm.specs.Starts.{object_listing}
use Rattle.uc_peep.specs.Needless.{dead_rule, idle_rule, back_rule, zero_rule, repeated_rule, held_rule}
use Rattle.ucode_emit.specs.SpillBase.{SpillsByBase}

-- ---- contexts

-- the argument is written to SRAM at its own address, and is the result
abbrev pub storing_code : CodeView
storing_code = record { params = 1; list = Un (dst.S 0) Copy (src.A 0) ∷ Write Sram 0 1 (gpr.A 0) 0 ∷ Halt 0 1 ∷ [] }

-- two contexts of it, on 1 and 2, with four words of SRAM
abbrev pub two_contexts : System
two_contexts = record { contexts = started ((1 ∷ []) ∷ (2 ∷ []) ∷ []); packet = blank 4 0 }

abbrev pub outcomes_of : System → List Outcome
outcomes_of s = map (λ x. x.outcome) s.contexts

-- Each entry is a step of its context alone. An entry of a context that is over does nothing. What the two write lies apart, so they are as
-- if each ran alone for as many steps as it has entries.
pub record ContextsTakeTurns : Type 0 where
  pub by_number : entries ((0, 2) ∷ (1, 3) ∷ (0, 1) ∷ []) ≡ 0 ∷ 0 ∷ 1 ∷ 1 ∷ 1 ∷ 0 ∷ []
  pub own : own_entries 1 (0 ∷ 0 ∷ 1 ∷ 1 ∷ 1 ∷ 0 ∷ []) ≡ 3
  pub none : scheduled storing_code.list [] two_contexts ≡ two_contexts
  pub half : outcomes_of (scheduled storing_code.list (0 ∷ 0 ∷ 1 ∷ 1 ∷ 1 ∷ []) two_contexts) ≡ outcome.Going ∷ outcome.Ended (2 ∷ []) ∷ []
  pub all : outcomes_of (scheduled storing_code.list (0 ∷ 0 ∷ 1 ∷ 1 ∷ 1 ∷ 1 ∷ 0 ∷ []) two_contexts) ≡ outcome.Ended (1 ∷ []) ∷ outcome.Ended (2 ∷ []) ∷ []
  pub wrote : (scheduled storing_code.list (0 ∷ 0 ∷ 1 ∷ 1 ∷ 1 ∷ []) two_contexts).packet.sram ≡ 0 ∷ 1 ∷ 2 ∷ 0 ∷ []
  pub no_third : scheduled storing_code.list (2 ∷ []) two_contexts ≡ two_contexts
  pub alone : scheduled storing_code.list (0 ∷ 0 ∷ 1 ∷ 1 ∷ 1 ∷ 0 ∷ []) two_contexts ≡ all_alone storing_code (blank 4 0) (lone_runs (0 ∷ 0 ∷ 1 ∷ 1 ∷ 1 ∷ 0 ∷ []) ((1 ∷ []) ∷ (2 ∷ []) ∷ []))

-- ---- objects

-- an object of version 2 has the exception of number 1 with its line and name, and no other; its listing has a line for the start
pub record TaggedObject : Type 0 where
  pub code : code_of (Two raising) ≡ raising.code
  pub exception : exception_of (Two raising) 1 ≡ Some (3, codes "Low")
  pub none : exception_of (Two raising) 0 ≡ None
  pub past : exception_of (Two raising) 2 ≡ None
  pub plain : exception_of (One raising.code) 1 ≡ None
  pub lines : object_listing (Two raising) ≡ text_of (codes "params 0" ∷ codes "L0:" ∷ codes "halt 1 0" ∷ [])
  pub plain_lines : object_listing (One raising.code) ≡ text_of (codes "params 0" ∷ codes "halt 1 0" ∷ [])

-- ---- slots

-- the moves use slot 3, so four slots are enough and three are not; with none B15 may not be an operand
pub record SlotsByBase : Type 0 where
  pub four : SpillsByBase 4 moving_code
  pub three : SpillsByBase 3 moving_code → ⊥
  pub operand : SpillsByBase 4 (Un (dst.A 0) Copy (src.B 15) ∷ Halt 0 1 ∷ []) → ⊥
  pub other_memory : SpillsByBase 4 (Read Sram 0 1 (gpr.B 15) 0 ∷ Halt 0 0 ∷ []) → ⊥

-- ---- needless instructions

-- A0 is compared with a zero in B0, and the first argument is the result where they are equal, else the second
abbrev pub zero_test : List Instr
zero_test =
    Immed (dst.B 0) 0 0
    ∷ Alu dst.Nowhere Sub (src.A 0) (src.B 0)
    ∷ Br Z 4
    ∷ Un (dst.A 0) Copy (src.A 1)
    ∷ Halt 0 1
    ∷ []

-- At the test its operands are live, and after it the flag Z and A1; at the end B0 isn't. Place 4 is a branch's target.
pub record LiveAroundTest : Type 0 where
  pub zero : Live zero_test (In (InB 0)) 1
  pub first : Live zero_test (In (InA 0)) 0
  pub second : Live zero_test (In (InA 1)) 0
  pub flag : Live zero_test Zero 2
  pub no_flag : Live zero_test Zero 1 → ⊥
  pub no_zero : Live zero_test (In (InB 0)) 4 → ⊥
  pub target : IsEntered zero_test 4

-- the bits of A0, A1 and B0 are 1, 2 and 65,536, those of zero and of the carry 2 ^ 64 and 2 ^ 65: what each rule answers
pub record RulesAnswer : Type 0 where
  pub dead : dead_rule (Immed (dst.B 0) 0 0 ∷ []) 3 ≡ Some []
  pub live : dead_rule (Immed (dst.B 0) 0 0 ∷ []) 65536 ≡ None
  pub flagged : dead_rule (Un dst.Nowhere Copy (src.A 0) ∷ []) 18446744073709551616 ≡ None
  pub idle : idle_rule (Un (dst.A 0) Copy (src.A 0) ∷ []) 3 ≡ Some []
  pub not_idle : idle_rule (Un (dst.A 0) Copy (src.A 1) ∷ []) 3 ≡ None
  pub back : back_rule (Un (dst.B 0) Copy (src.A 0) ∷ Un (dst.A 0) Copy (src.B 0) ∷ []) 3 ≡ Some (Un (dst.B 0) Copy (src.A 0) ∷ [])
  pub zero : zero_rule (Immed (dst.B 0) 0 0 ∷ Alu dst.Nowhere Sub (src.A 0) (src.B 0) ∷ []) 18446744073709551619 ≡ Some (Un dst.Nowhere Copy (src.A 0) ∷ [])
  pub wanted : zero_rule (Immed (dst.B 0) 0 0 ∷ Alu dst.Nowhere Sub (src.A 0) (src.B 0) ∷ []) 65539 ≡ None
  pub repeated : repeated_rule (Alu (dst.A 0) Sub (src.A 0) (src.B 0) ∷ Un dst.Nowhere Copy (src.A 0) ∷ []) 18446744073709551617 ≡ Some (Alu (dst.A 0) Sub (src.A 0) (src.B 0) ∷ [])
  pub carried : repeated_rule (Alu (dst.A 0) Sub (src.A 0) (src.B 0) ∷ Un dst.Nowhere Copy (src.A 0) ∷ []) 36893488147419103233 ≡ None
  pub held : held_rule (Immed (dst.B 0) 7 0 ∷ Un (dst.A 0) Copy (src.B 0) ∷ Immed (dst.B 0) 7 0 ∷ []) 65537 ≡ Some (Immed (dst.B 0) 7 0 ∷ Un (dst.A 0) Copy (src.B 0) ∷ [])
  pub other : held_rule (Immed (dst.B 0) 7 0 ∷ Un (dst.A 0) Copy (src.B 0) ∷ Immed (dst.B 0) 8 0 ∷ []) 65537 ≡ None
