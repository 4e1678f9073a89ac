-- Short codes, by computing.
use Rattle.std.proofs.Common.{◌≡◌, ◌∙◌, refl, ap, sym, subst, ℕ, List, [], ◌∷◌, Bool, true, false, Option, Some, None, ◌≤◌, inr, lit≤, arith}
use Rattle.std.proofs.lemmas.List.Elements.{All-nil, All-cons, All-head, All-tail}
use Rattle.std.specs.Fmt.{digits}
use Rattle.nv_base.specs.declared.term.Bin.TheVariants.{Sub}
use Rattle.nv_base.specs.declared.term.Mem.{Mem}
use Rattle.nv_base.specs.declared.term.Mem.TheVariants.{Sram, Scratch}
use Rattle.uc_isa.specs.declared.instruction.Src.TheVariants as src
use Rattle.uc_isa.specs.declared.instruction.Dst.TheVariants as dst
use Rattle.uc_isa.specs.declared.instruction.Gpr.TheVariants as gpr
use Rattle.uc_isa.specs.declared.instruction.UnOp.TheVariants.{Copy}
use Rattle.uc_isa.specs.declared.instruction.Cond.TheVariants.{Z}
use Rattle.uc_isa.specs.declared.instruction.Instr.{Instr}
use Rattle.uc_isa.specs.declared.instruction.Instr.TheVariants.{Alu, Un, Immed, Br, Read, Write, Halt}
use Rattle.uc_isa.specs.Registers.Register.{InB}
use Rattle.uc_isa.specs.Worked.{moving_code}
use Rattle.uc_isa.specs.Resources.{Resource, Live, Needs, Passes, IsNext, reads, writes}
use Rattle.uc_isa.specs.Resources.Resource.{In, Zero}
use Rattle.ucode_emit.specs.SpillBase.{KeepsBase, SpillsByBase}
use Rattle.laws_commands.specs.ExamplesMachine.{ContextsTakeTurns, TaggedObject, SlotsByBase, LiveAroundTest, RulesAnswer, zero_test}

pub contexts_take_turns : ContextsTakeTurns
contexts_take_turns = record { by_number = refl; own = refl; none = refl; half = refl; all = refl; wrote = refl; no_third = refl; alone = refl }

pub tagged_object : TaggedObject
unfolding digits
tagged_object = record { code = refl; exception = refl; none = refl; past = refl; plain = refl; lines = refl; plain_lines = refl }

-- ---- slots

next : (slots : ℕ) (i : Instr) (is : List Instr) → KeepsBase slots i → SpillsByBase slots is → SpillsByBase slots (i ∷ is)
next slots i is h hs = All-cons (KeepsBase slots) i is h hs

here : (slots : ℕ) (i : Instr) (is : List Instr) → SpillsByBase slots (i ∷ is) → KeepsBase slots i
here slots i is h = All-head (KeepsBase slots) i is h

later : (slots : ℕ) (i : Instr) (is : List Instr) → SpillsByBase slots (i ∷ is) → SpillsByBase slots is
later slots i is h = All-tail (KeepsBase slots) i is h

zero_is_not_fifteen : ◌≡◌ {A = ℕ} 0 15 → ⊥
zero_is_not_fifteen h = cc

-- the moves from each on
abbrev from_7 : List Instr
from_7 = Halt 0 2 ∷ []

abbrev from_6 : List Instr
from_6 = Un (dst.A 2) Copy (src.A 3) ∷ from_7

abbrev from_5 : List Instr
from_5 = Un (dst.A 1) Copy (src.L 0) ∷ from_6

abbrev from_4 : List Instr
from_4 = Read Scratch 0 1 (gpr.B 15) 3 ∷ from_5

abbrev from_3 : List Instr
from_3 = Write Scratch 0 1 (gpr.B 15) 3 ∷ from_4

abbrev from_2 : List Instr
from_2 = Un (dst.S 0) Copy (src.A 2) ∷ from_3

abbrev from_1 : List Instr
from_1 = Un (dst.B 0) Copy (src.A 1) ∷ from_2

four_slots : SpillsByBase 4 moving_code
four_slots =
    next 4 (Un (dst.A 15) Copy (src.A 0)) from_1 (tt, tt)
    (next 4 (Un (dst.B 0) Copy (src.A 1)) from_2 (zero_is_not_fifteen, tt)
    (next 4 (Un (dst.S 0) Copy (src.A 2)) from_3 (tt, tt)
    (next 4 (Write Scratch 0 1 (gpr.B 15) 3) from_4 (λ e. (refl, lit≤ tt))
    (next 4 (Read Scratch 0 1 (gpr.B 15) 3) from_5 (λ e. (refl, lit≤ tt))
    (next 4 (Un (dst.A 1) Copy (src.L 0)) from_6 (tt, tt)
    (next 4 (Un (dst.A 2) Copy (src.A 3)) from_7 (tt, tt)
    (next 4 (Halt 0 2) [] tt (All-nil (KeepsBase 4)))))))))

third : SpillsByBase 3 moving_code → KeepsBase 3 (Write Scratch 0 1 (gpr.B 15) 3)
third h =
    here 3 (Write Scratch 0 1 (gpr.B 15) 3) from_4
    (later 3 (Un (dst.S 0) Copy (src.A 2)) from_3
    (later 3 (Un (dst.B 0) Copy (src.A 1)) from_2
    (later 3 (Un (dst.A 15) Copy (src.A 0)) from_1 h)))

not_three : SpillsByBase 3 moving_code → ⊥
not_three h =
    let few : 4 ≤ 3 = (third h refl).1 in
    omega (arith, few)

sram_is_not_scratch : ◌≡◌ {A = Mem} Sram Scratch → ⊥
sram_is_not_scratch e = cc

pub slots_by_base : SlotsByBase
slots_by_base = record {
  four = four_slots;
  three = not_three;
  operand = λ h. (here 4 (Un (dst.A 0) Copy (src.B 15)) (Halt 0 1 ∷ []) h).1 refl;
  other_memory = λ h. sram_is_not_scratch (here 4 (Read Sram 0 1 (gpr.B 15) 0) (Halt 0 0 ∷ []) h refl).0;
}

-- ---- needless instructions

abbrev reads_of : Option Instr → Resource → Bool
reads_of None s = false
reads_of (Some i) s = reads i s

abbrev writes_of : Option Instr → Resource → Bool
writes_of None s = true
writes_of (Some i) s = writes i s

abbrev NextOf : Option Instr → ℕ → ℕ → Type 0
NextOf None x y = ⊥
NextOf (Some i) x y = IsNext i x y

false_is_not_true : ◌≡◌ {A = Bool} false true → ⊥
false_is_not_true h = cc

no_flag : Live zero_test Zero 1 → ⊥
no_flag (Needs i e r) = false_is_not_true (ap (λ o. reads_of o Zero) e ∙ r)
no_flag (Passes i y e w n l) = false_is_not_true (sym (ap (λ o. writes_of o Zero) e ∙ w))

no_zero : Live zero_test (In (InB 0)) 4 → ⊥
no_zero (Needs i e r) = false_is_not_true (ap (λ o. reads_of o (In (InB 0))) e ∙ r)
no_zero (Passes i y e w n l) = subst (λ o. NextOf o 4 y) (sym e) n

pub live_around_test : LiveAroundTest
live_around_test = record {
  zero = Needs (Alu dst.Nowhere Sub (src.A 0) (src.B 0)) refl refl;
  first = Passes (Immed (dst.B 0) 0 0) 1 refl refl refl (Needs (Alu dst.Nowhere Sub (src.A 0) (src.B 0)) refl refl);
  second =
      Passes (Immed (dst.B 0) 0 0) 1 refl refl refl
      (Passes (Alu dst.Nowhere Sub (src.A 0) (src.B 0)) 2 refl refl refl
      (Passes (Br Z 4) 3 refl refl (inr refl)
      (Needs (Un (dst.A 0) Copy (src.A 1)) refl refl)));
  flag = Needs (Br Z 4) refl refl;
  no_flag = no_flag;
  no_zero = no_zero;
  target = (2, Br Z 4, refl, refl);
}

pub rules_answer : RulesAnswer
rules_answer = record { dead = refl; live = refl; flagged = refl; idle = refl; not_idle = refl; back = refl; zero = refl; wanted = refl; repeated = refl; carried = refl; held = refl; other = refl }
