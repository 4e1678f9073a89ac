-- The engine's registers, one by one.
use Rattle.std.specs.Prelude.{◌≡◌, ℕ, ◌+◌, ◌<◌, List, Option, Some, None, length, slice_index}
use Rattle.nv_base.specs.declared.term.Mem.{Mem}
use Rattle.nv_base.specs.declared.term.Mem.TheVariants.{Sram, Sdram, Scratch}
use Rattle.uc_isa.specs.declared.instruction.Src.{Src}
use Rattle.uc_isa.specs.declared.instruction.Src.TheVariants as src
use Rattle.uc_isa.specs.declared.instruction.Dst.{Dst}
use Rattle.uc_isa.specs.declared.instruction.Dst.TheVariants as dst
use Rattle.nv_base.specs.declared.term.Cmp.{Cmp}
use Rattle.nv_base.specs.declared.term.Cmp.TheVariants.{Eq, Ne, Lt, Ge}
use Rattle.uc_isa.specs.declared.instruction.Cond.{Cond}
use Rattle.uc_isa.specs.declared.instruction.Cond.TheVariants.{Z, NZ, C, NC}
use Rattle.uc_isa.specs.declared.instruction.Gpr.{Gpr}
use Rattle.uc_isa.specs.declared.instruction.Gpr.TheVariants as gpr
use Rattle.uc_isa.specs.declared.engine.Engine.{Engine}

-- a register, by its bank and its number there
pub data Register : Type 0 where
  InA : (k : ℕ) → Register
  InB : (k : ℕ) → Register
  InL : (k : ℕ) → Register
  InS : (k : ℕ) → Register
  InLD : (k : ℕ) → Register
  InSD : (k : ℕ) → Register

-- the bank has a register with this number
abbrev pub IsRegister : Register → Type 0
IsRegister (InA k) = k < 16
IsRegister (InB k) = k < 16
IsRegister (InL k) = k < 8
IsRegister (InS k) = k < 8
IsRegister (InLD k) = k < 8
IsRegister (InSD k) = k < 8

-- the word in a register
abbrev pub register : Register → Engine → ℕ
register (InA k) e = slice_index e.a k
register (InB k) e = slice_index e.b k
register (InL k) e = slice_index e.l k
register (InS k) e = slice_index e.s k
register (InLD k) e = slice_index e.ld k
register (InSD k) e = slice_index e.sd k

-- the register that an operand names
abbrev pub source_register : Src → Register
source_register (src.A k) = InA k
source_register (src.B k) = InB k
source_register (src.L k) = InL k
source_register (src.LD k) = InLD k

-- the register that holds an address
abbrev pub address_register : Gpr → Register
address_register (gpr.A k) = InA k
address_register (gpr.B k) = InB k

-- the register that a target names, if any
abbrev pub target_register : Dst → Option Register
target_register (dst.A k) = Some (InA k)
target_register (dst.B k) = Some (InB k)
target_register (dst.S k) = Some (InS k)
target_register (dst.SD k) = Some (InSD k)
target_register dst.Nowhere = None

-- the read register of a memory with this number
abbrev pub read_register : Mem → ℕ → Register
read_register Sram k = InL k
read_register Sdram k = InLD k
read_register Scratch k = InL k

-- the write register of a memory with this number
abbrev pub write_register : Mem → ℕ → Register
write_register Sram k = InS k
write_register Sdram k = InSD k
write_register Scratch k = InS k

-- the second engine has this word in a target; all other registers are those of the first, and it stands at the next place
pub record Puts (d : Dst) (v : ℕ) (e e' : Engine) : Type 0 where
  pub target : (r : Register) → target_register d ≡ Some r → IsRegister r → register r e' ≡ v
  pub others : (r : Register) → ¬ (target_register d ≡ Some r) → register r e' ≡ register r e
  pub next : e'.place ≡ e.place + 1

-- the second engine has these words in the read registers of a memory from number r on; all other registers are those
-- of the first, and it stands at the next place
pub record Fills (m : Mem) (r : ℕ) (words : List ℕ) (e e' : Engine) : Type 0 where
  pub run : (i : ℕ) → i < length words → register (read_register m (r + i)) e' ≡ slice_index words i
  pub others : (x : Register) → ((i : ℕ) → i < length words → ¬ (x ≡ read_register m (r + i))) → register x e' ≡ register x e
  pub next : e'.place ≡ e.place + 1

-- the condition, after a difference that sets the flags, of a branch that is taken where a comparison fails
abbrev pub failing : Cmp → Cond
failing Eq = NZ
failing Ne = Z
failing Lt = C
failing Ge = NC
