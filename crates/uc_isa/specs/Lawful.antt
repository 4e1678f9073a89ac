-- Which code is lawful: seven rules on one instruction, each by the kinds that it speaks of.
use Rattle.std.specs.Prelude.{◌≡◌, ℕ, ◌+◌, ◌%◌, ◌<◌, ◌≤◌, ◌⊎◌, List, length, Some, ⊤, slice_get}
use Rattle.nv_base.specs.declared.term.Mem.{Mem}
use Rattle.nv_base.specs.declared.term.Mem.TheVariants.{Sram, Sdram, Scratch}
use Rattle.uc_isa.specs.declared.instruction.Src.{Src}
use Rattle.uc_isa.specs.declared.instruction.Src.TheVariants as src
use Rattle.uc_isa.specs.declared.instruction.UnOp.{UnOp}
use Rattle.uc_isa.specs.declared.instruction.UnOp.TheVariants.{Copy, Not, Shl, Shr, Rol}
use Rattle.uc_isa.specs.declared.instruction.Cond.TheVariants.{Always}
use Rattle.uc_isa.specs.declared.instruction.Instr.{Instr}
use Rattle.uc_isa.specs.declared.instruction.Instr.TheVariants.{Alu, Un, Immed, Br, Read, Write, Halt}

-- two operands aren't both of bank A, not both of B, and not both of L or LD
abbrev pub AreApart : Src → Src → Type 0
AreApart (src.A x) (src.A y) = ⊥
AreApart (src.B x) (src.B y) = ⊥
AreApart (src.L x) (src.L y) = ⊥
AreApart (src.L x) (src.LD y) = ⊥
AreApart (src.LD x) (src.L y) = ⊥
AreApart (src.LD x) (src.LD y) = ⊥
AreApart _ _ = ⊤

-- rule 1: the ALU's two operands come from different banks
abbrev pub Rule1 : Instr → Type 0
Rule1 (Alu d op x y) = AreApart x y
Rule1 _ = ⊤

-- n registers from number r on: one at least, and all within the bank
abbrev pub IsRun : ℕ → ℕ → Type 0
IsRun r n = (1 ≤ n) × (r + n ≤ 8)

-- rule 2: a memory instruction names a run of registers
abbrev pub Rule2 : Instr → Type 0
Rule2 (Read m r n x off) = IsRun r n
Rule2 (Write m r n x off) = IsRun r n
Rule2 _ = ⊤

-- at SDRAM the first register's number and the number of words are even
abbrev pub IsPaired : Mem → ℕ → ℕ → Type 0
IsPaired Sram r n = ⊤
IsPaired Sdram r n = (r % 2 ≡ 0) × (n % 2 ≡ 0)
IsPaired Scratch r n = ⊤

-- rule 3: a run for SDRAM is made of pairs
abbrev pub Rule3 : Instr → Type 0
Rule3 (Read m r n x off) = IsPaired m r n
Rule3 (Write m r n x off) = IsPaired m r n
Rule3 _ = ⊤

-- the count of a shift or rotation is 1 to 31
abbrev pub IsShift : UnOp → Type 0
IsShift Copy = ⊤
IsShift Not = ⊤
IsShift (Shl k) = (1 ≤ k) × (k ≤ 31)
IsShift (Shr k) = (1 ≤ k) × (k ≤ 31)
IsShift (Rol k) = (1 ≤ k) × (k ≤ 31)

-- rule 4: counts are 1 to 31, an immediate is shifted by 0, 8 or 16, and an offset is at most 127
abbrev pub Rule4 : Instr → Type 0
Rule4 (Un d op x) = IsShift op
Rule4 (Immed d v s) = (s ≡ 0) ⊎ (s ≡ 8) ⊎ (s ≡ 16)
Rule4 (Read m r n x off) = off ≤ 127
Rule4 (Write m r n x off) = off ≤ 127
Rule4 _ = ⊤

-- rule 5: in code of this many instructions a branch goes to one of them
abbrev pub Rule5 : ℕ → Instr → Type 0
Rule5 len (Br cond target) = target < len
Rule5 len _ = ⊤

-- rule 6: a halt gives at most 8 words
abbrev pub Rule6 : Instr → Type 0
Rule6 (Halt k n) = n ≤ 8
Rule6 _ = ⊤

-- the engine never goes on to the instruction after this one
abbrev pub IsLast : Instr → Type 0
IsLast (Halt k n) = ⊤
IsLast (Br Always target) = ⊤
IsLast _ = ⊥

-- rule 7: the last instruction is a halt or a branch that is always taken
abbrev pub Rule7 : ℕ → ℕ → Instr → Type 0
Rule7 len place i = place + 1 ≡ len → IsLast i

-- the instruction at a place keeps the seven rules
pub record IsLawfulAt (code : List Instr) (place : ℕ) (i : Instr) : Type 0 where
  pub operands : Rule1 i
  pub run_inside : Rule2 i
  pub pairs : Rule3 i
  pub numbers : Rule4 i
  pub target : Rule5 (length code) i
  pub halt : Rule6 i
  pub last : Rule7 (length code) place i

-- the place has a lawful instruction, if it has one
abbrev pub IsLawfulPlace : List Instr → ℕ → Type 0
IsLawfulPlace code place = (i : Instr) → slice_get code place ≡ Some i → IsLawfulAt code place i

-- all instructions are lawful
abbrev pub IsLawful : List Instr → Type 0
IsLawful code = (place : ℕ) (i : Instr) → slice_get code place ≡ Some i → IsLawfulAt code place i

-- this instruction breaks the rule with this number
abbrev pub Breaks : List Instr → ℕ → Instr → ℕ → Type 0
Breaks code place i rule =
    ((rule ≡ 1) × ¬ Rule1 i)
    ⊎ ((rule ≡ 2) × ¬ Rule2 i)
    ⊎ ((rule ≡ 3) × ¬ Rule3 i)
    ⊎ ((rule ≡ 4) × ¬ Rule4 i)
    ⊎ ((rule ≡ 5) × ¬ Rule5 (length code) i)
    ⊎ ((rule ≡ 6) × ¬ Rule6 i)
    ⊎ ((rule ≡ 7) × ¬ Rule7 (length code) place i)

-- the rule with this number is broken at this place
abbrev pub IsBroken : List Instr → ℕ → ℕ → Type 0
IsBroken code place rule = (i : Instr) × (slice_get code place ≡ Some i) × Breaks code place i rule

-- the least rule that is broken at a place
pub record IsLeastBroken (code : List Instr) (place rule : ℕ) : Type 0 where
  pub broken : IsBroken code place rule
  pub least : (lesser : ℕ) → lesser < rule → ¬ IsBroken code place lesser

-- the first place that isn't lawful, with the least rule that is broken there
pub record IsFirstBroken (code : List Instr) (place rule : ℕ) : Type 0 where
  pub first : (earlier : ℕ) → earlier < place → IsLawfulPlace code earlier
  pub least : IsLeastBroken code place rule
