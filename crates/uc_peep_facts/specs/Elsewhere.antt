-- Instructions that read the same words from other registers, or put a result nowhere.
use Rattle.std.specs.Prelude.{◌≡◌, ◌≢◌, ◌⊎◌, ℕ, suc, List, [], ◌∷◌, Some, slice_get}
use Rattle.nv_base.specs.declared.term.Bin.{Bin}
use Rattle.nv_base.specs.declared.term.Mem.{Mem}
use Rattle.uc_isa.specs.Registers.{IsRegister, Register, target_register}
use Rattle.uc_isa.specs.Resources.{Live}
use Rattle.uc_isa.specs.Resources.Resource.{In}
use Rattle.uc_isa.specs.declared.instruction.Dst.{Dst}
use Rattle.uc_isa.specs.declared.instruction.Dst.TheVariants.{Nowhere}
use Rattle.uc_isa.specs.declared.instruction.Gpr.{Gpr}
use Rattle.uc_isa.specs.declared.instruction.Gpr.TheVariants as gpr
use Rattle.uc_isa.specs.declared.instruction.Src.{Src}
use Rattle.uc_isa.specs.declared.instruction.Src.TheVariants as src
use Rattle.uc_isa.specs.declared.instruction.UnOp.{UnOp}
use Rattle.uc_isa.specs.declared.instruction.Instr.{Instr}
use Rattle.uc_isa.specs.declared.instruction.Instr.TheVariants.{Alu, Un, Read, Write}
use Rattle.uc_peep.specs.Becomes.{IsKept}
use Rattle.uc_peep_facts.specs.Facts.{SetsFlags}

-- the second operand is the first, or in another register than B15
abbrev pub ReadsAs : Src → Src → Type 0
ReadsAs x y = (y ≡ x) ⊎ (y ≢ src.B 15)

-- the second address is the first, or neither is in B15
abbrev pub GoesAs : Gpr → Gpr → Type 0
GoesAs x y = (y ≡ x) ⊎ ((x ≢ gpr.B 15) × (y ≢ gpr.B 15))

-- the second instruction is the first, but for the registers of its operands or of its address, or its target, which is none
pub data Rereads : Instr → Instr → Type 0 where
  Same : (i : Instr) → Rereads i i
  Binary : (d : Dst) (op : Bin) (x x' y y' : Src) → ReadsAs x x' → ReadsAs y y' → Rereads (Alu d op x y) (Alu d op x' y')
  Unary : (d : Dst) (op : UnOp) (x x' : Src) → ReadsAs x x' → Rereads (Un d op x) (Un d op x')
  Reading : (m : Mem) (r n : ℕ) (x x' : Gpr) (off : ℕ) → GoesAs x x' → Rereads (Read m r n x off) (Read m r n x' off)
  Writing : (m : Mem) (r n : ℕ) (x x' : Gpr) (off : ℕ) → GoesAs x x' → Rereads (Write m r n x off) (Write m r n x' off)
  BinaryTest : (d : Dst) (op : Bin) (x y : Src) → Rereads (Alu d op x y) (Alu Nowhere op x y)
  UnaryTest : (d : Dst) (op : UnOp) (x : Src) → Rereads (Un d op x) (Un Nowhere op x)
  InTurn : (i j k : Instr) → Rereads i j → Rereads j k → Rereads i k

-- each instruction of the second code is that of the first at its place, read so
pub data AreReread : List Instr → List Instr → Type 0 where
  Nothing : AreReread [] []
  Each : (i j : Instr) (code code' : List Instr) → Rereads i j → AreReread code code' → AreReread (i ∷ code) (j ∷ code')

-- the second code does what the first did, and reads elsewhere
pub record IsSourced (code : List Instr) (starts : List ℕ) (code' : List Instr) : Type 0 where
  pub kept : IsKept code starts code' starts
  pub reread : AreReread code code'

-- where an operation sets the flags, its target is live after it
abbrev pub HasNoIdleTarget : List Instr → Type 0
HasNoIdleTarget code = (x : ℕ) (i : Instr) (d : Dst) (r : Register) → slice_get code x ≡ Some i → SetsFlags i d → target_register d ≡ Some r → IsRegister r → Live code (In r) (suc x)
