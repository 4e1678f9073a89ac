-- The registers and the flags, what an instruction reads and writes, and where the engine may go from it.
use Rattle.std.specs.Prelude.{◌≡◌, ℕ, ◌+◌, ◌⊎◌, ⊤, Bool, true, false, ◌||◌, ◌&&◌, nat_eq, nat_le, nat_lt, List, Option, Some, None, slice_get, if◌then◌else◌}
use Rattle.nv_base.specs.declared.term.Mem.{Mem}
use Rattle.nv_base.specs.declared.term.Mem.TheVariants.{Sram, Sdram, Scratch}
use Rattle.uc_isa.specs.Registers.{Register, IsRegister, register, source_register, address_register, target_register}
use Rattle.uc_isa.specs.Registers.Register.{InA, InB, InL, InS, InLD, InSD}
use Rattle.uc_isa.specs.declared.instruction.Src.{Src}
use Rattle.uc_isa.specs.declared.instruction.Dst.{Dst}
use Rattle.uc_isa.specs.declared.instruction.Gpr.{Gpr}
use Rattle.uc_isa.specs.declared.instruction.Cond.{Cond}
use Rattle.uc_isa.specs.declared.instruction.Cond.TheVariants.{Always, Z, NZ, C, NC}
use Rattle.uc_isa.specs.declared.instruction.Instr.{Instr}
use Rattle.uc_isa.specs.declared.instruction.Instr.TheVariants.{Alu, Un, Immed, Br, Read, Write, Halt}
use Rattle.uc_isa.specs.declared.engine.Engine.{Engine}

-- a register, or a flag
pub data Resource : Type 0 where
  In : (r : Register) → Resource
  Zero : Resource
  Carry : Resource

-- the register is one of its bank's
abbrev pub IsResource : Resource → Type 0
IsResource (In r) = IsRegister r
IsResource Zero = ⊤
IsResource Carry = ⊤

-- a number of its own for each of the 64 registers and the two flags
abbrev pub number : Resource → ℕ
number (In (InA k)) = k
number (In (InB k)) = 16 + k
number (In (InL k)) = 32 + k
number (In (InS k)) = 40 + k
number (In (InLD k)) = 48 + k
number (In (InSD k)) = 56 + k
number Zero = 64
number Carry = 65

abbrev pub flag_word : Bool → ℕ
flag_word b = if b then 1 else 0

-- what a register or a flag holds
abbrev pub value : Resource → Engine → ℕ
value (In r) e = register r e
value Zero e = flag_word e.z
value Carry e = flag_word e.c

abbrev pub same_register : Register → Register → Bool
same_register (InA k) (InA j) = nat_eq k j
same_register (InB k) (InB j) = nat_eq k j
same_register (InL k) (InL j) = nat_eq k j
same_register (InS k) (InS j) = nat_eq k j
same_register (InLD k) (InLD j) = nat_eq k j
same_register (InSD k) (InSD j) = nat_eq k j
same_register _ _ = false

abbrev pub is_register : Register → Resource → Bool
is_register r (In q) = same_register q r
is_register r Zero = false
is_register r Carry = false

abbrev pub is_some_register : Option Register → Resource → Bool
is_some_register (Some r) s = is_register r s
is_some_register None s = false

abbrev pub is_zero : Resource → Bool
is_zero Zero = true
is_zero _ = false

abbrev pub is_carry : Resource → Bool
is_carry Carry = true
is_carry _ = false

abbrev pub is_source : Src → Resource → Bool
is_source x s = is_register (source_register x) s

abbrev pub is_address : Gpr → Resource → Bool
is_address x s = is_register (address_register x) s

abbrev pub is_target : Dst → Resource → Bool
is_target d s = is_some_register (target_register d) s

-- the number is one of n from r on
abbrev pub is_within : ℕ → ℕ → ℕ → Bool
is_within r n k = nat_le r k && nat_lt k (r + n)

-- one of the n registers from number r on, of a bank
abbrev pub is_run_of_a : ℕ → ℕ → Resource → Bool
is_run_of_a r n (In (InA k)) = is_within r n k
is_run_of_a r n _ = false

abbrev pub is_run_of_l : ℕ → ℕ → Resource → Bool
is_run_of_l r n (In (InL k)) = is_within r n k
is_run_of_l r n _ = false

abbrev pub is_run_of_s : ℕ → ℕ → Resource → Bool
is_run_of_s r n (In (InS k)) = is_within r n k
is_run_of_s r n _ = false

abbrev pub is_run_of_ld : ℕ → ℕ → Resource → Bool
is_run_of_ld r n (In (InLD k)) = is_within r n k
is_run_of_ld r n _ = false

abbrev pub is_run_of_sd : ℕ → ℕ → Resource → Bool
is_run_of_sd r n (In (InSD k)) = is_within r n k
is_run_of_sd r n _ = false

-- one of the n read registers of a memory from number r on
abbrev pub is_read_run : Mem → ℕ → ℕ → Resource → Bool
is_read_run Sram r n s = is_run_of_l r n s
is_read_run Sdram r n s = is_run_of_ld r n s
is_read_run Scratch r n s = is_run_of_l r n s

-- one of the n write registers of a memory from number r on
abbrev pub is_write_run : Mem → ℕ → ℕ → Resource → Bool
is_write_run Sram r n s = is_run_of_s r n s
is_write_run Sdram r n s = is_run_of_sd r n s
is_write_run Scratch r n s = is_run_of_s r n s

-- the flag that a branch asks
abbrev pub tests : Cond → Resource → Bool
tests Always s = false
tests Z s = is_zero s
tests NZ s = is_zero s
tests C s = is_carry s
tests NC s = is_carry s

-- what an instruction reads
abbrev pub reads : Instr → Resource → Bool
reads (Alu d op x y) s = is_source x s || is_source y s
reads (Un d op x) s = is_source x s
reads (Immed d v k) s = false
reads (Br cond target) s = tests cond s
reads (Read m r n x off) s = is_address x s
reads (Write m r n x off) s = is_write_run m r n s || is_address x s
reads (Halt k n) s = is_run_of_a 0 n s

abbrev pub is_flag : Resource → Bool
is_flag (In r) = false
is_flag Zero = true
is_flag Carry = true

-- what an instruction writes; a read that reaches past its memory ends the run
abbrev pub writes : Instr → Resource → Bool
writes (Alu d op x y) s = is_flag s || is_target d s
writes (Un d op x) s = is_flag s || is_target d s
writes (Immed d v k) s = is_target d s
writes (Br cond target) s = false
writes (Read m r n x off) s = is_read_run m r n s
writes (Write m r n x off) s = false
writes (Halt k n) s = false

abbrev pub IsNextOfBranch : Cond → ℕ → ℕ → ℕ → Type 0
IsNextOfBranch Always target x y = y ≡ target
IsNextOfBranch Z target x y = (y ≡ target) ⊎ (y ≡ x + 1)
IsNextOfBranch NZ target x y = (y ≡ target) ⊎ (y ≡ x + 1)
IsNextOfBranch C target x y = (y ≡ target) ⊎ (y ≡ x + 1)
IsNextOfBranch NC target x y = (y ≡ target) ⊎ (y ≡ x + 1)

-- the engine may go from an instruction at x to the place y
abbrev pub IsNext : Instr → ℕ → ℕ → Type 0
IsNext (Br cond target) x y = IsNextOfBranch cond target x y
IsNext (Halt k n) x y = ⊥
IsNext _ x y = y ≡ x + 1

-- a register or a flag is live at a place: some path of places from there reads it before it writes it
pub data Live (code : List Instr) (s : Resource) : ℕ → Type 0 where
  Needs : {x : ℕ} (i : Instr) → slice_get code x ≡ Some i → reads i s ≡ true → Live code s x
  Passes : {x : ℕ} (i : Instr) (y : ℕ) → slice_get code x ≡ Some i → writes i s ≡ false → IsNext i x y → Live code s y → Live code s x
