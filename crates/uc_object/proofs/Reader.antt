-- The reader of rows: what each byte stands for.
use Rattle.std.proofs.Common.{◌≡◌, ℕ, ◌-◌, ◌<◌, ◌≤◌, arith, nat_lt, if◌then◌else◌, ◌==◌}
use Rattle.std.proofs.lemmas.Bool.Decides.{nat_tests}
use Rattle.nv_base.specs.declared.term.Mem.{Mem}
use Rattle.nv_base.specs.declared.term.Mem.TheVariants.{Sram, Sdram, Scratch}
use Rattle.nv_base.specs.declared.term.Bin.{Bin}
use Rattle.nv_base.specs.declared.term.Bin.TheVariants.{Add, Sub, And, Or, Xor}
use Rattle.uc_isa.specs.declared.instruction.Src.{Src}
use Rattle.uc_isa.specs.declared.instruction.Src.TheVariants as src
use Rattle.uc_isa.specs.declared.instruction.Dst.{Dst}
use Rattle.uc_isa.specs.declared.instruction.Dst.TheVariants as dst
use Rattle.uc_isa.specs.declared.instruction.Gpr.{Gpr}
use Rattle.uc_isa.specs.declared.instruction.Gpr.TheVariants as gpr
use Rattle.uc_isa.specs.declared.instruction.UnOp.{UnOp}
use Rattle.uc_isa.specs.declared.instruction.UnOp.TheVariants.{Copy, Not, Shl, Shr, Rol}
use Rattle.uc_isa.specs.declared.instruction.Cond.{Cond}
use Rattle.uc_isa.specs.declared.instruction.Cond.TheVariants.{Always, Z, NZ, C, NC}
use Rattle.uc_object.specs.Rows.{IsSource, IsTarget, IsAddress, number_of_binary, number_of_unary, number_of_condition, number_of_memory, shift_count}
use Rattle.uc_object.specs.Columns.{Allows}
use Rattle.uc_object.specs.declared.byte_set.Column.TheVariants.{Source, Target}

-- the operand of a byte
abbrev pub source_of : ℕ → Src
source_of b = if nat_lt b 16 then src.A b else if nat_lt b 32 then src.B (b - 16) else if nat_lt b 48 then src.L (b - 32) else src.LD (b - 48)

pub source_of-is : (b : ℕ) → Allows Source b → IsSource (source_of b) b
source_of-is b h = grind (arith, nat_tests)

pub source_of-one : (s : Src) (b : ℕ) → IsSource s b → source_of b ≡ s
source_of-one (src.A i) b h = grind (arith, nat_tests)
source_of-one (src.B i) b h = grind (arith, nat_tests)
source_of-one (src.L i) b h = grind (arith, nat_tests)
source_of-one (src.LD i) b h = grind (arith, nat_tests)

-- the operation of a number
abbrev pub binary_of : ℕ → Bin
binary_of n = if n == 0 then Add else if n == 1 then Sub else if n == 2 then And else if n == 3 then Or else Xor

pub binary_of-is : (n : ℕ) → n ≤ 4 → number_of_binary (binary_of n) ≡ n
binary_of-is n h = grind (arith, nat_tests)

pub binary_of-one : (o : Bin) (n : ℕ) → number_of_binary o ≡ n → binary_of n ≡ o
binary_of-one Add n h = grind (arith, nat_tests)
binary_of-one Sub n h = grind (arith, nat_tests)
binary_of-one And n h = grind (arith, nat_tests)
binary_of-one Or n h = grind (arith, nat_tests)
binary_of-one Xor n h = grind (arith, nat_tests)

-- the place of a result of a byte
abbrev pub target_of : ℕ → Dst
target_of b = if nat_lt b 16 then dst.A b else if nat_lt b 32 then dst.B (b - 16) else if nat_lt b 72 then dst.S (b - 64) else if nat_lt b 88 then dst.SD (b - 80) else dst.Nowhere

pub target_of-is : (b : ℕ) → Allows Target b → IsTarget (target_of b) b
target_of-is b h = grind (arith, nat_tests)

pub target_of-one : (d : Dst) (b : ℕ) → IsTarget d b → target_of b ≡ d
target_of-one (dst.A i) b h = grind (arith, nat_tests)
target_of-one (dst.B i) b h = grind (arith, nat_tests)
target_of-one (dst.S i) b h = grind (arith, nat_tests)
target_of-one (dst.SD i) b h = grind (arith, nat_tests)
target_of-one dst.Nowhere b h = grind (arith, nat_tests)

-- the address register of a byte
abbrev pub address_of : ℕ → Gpr
address_of b = if nat_lt b 16 then gpr.A b else gpr.B (b - 16)

pub address_of-is : (b : ℕ) → b < 32 → IsAddress (address_of b) b
address_of-is b h = grind (arith, nat_tests)

pub address_of-one : (x : Gpr) (b : ℕ) → IsAddress x b → address_of b ≡ x
address_of-one (gpr.A i) b h = grind (arith, nat_tests)
address_of-one (gpr.B i) b h = grind (arith, nat_tests)

-- the operation on one word of a number and a count
abbrev pub unary_of : ℕ → ℕ → UnOp
unary_of n k = if n == 0 then Copy else if n == 1 then Not else if n == 2 then Shl k else if n == 3 then Shr k else Rol k

pub unary_of-is : (n k : ℕ) → n ≤ 4 → (n < 2 → k ≡ 0) → (number_of_unary (unary_of n k) ≡ n) × (shift_count (unary_of n k) ≡ k)
unary_of-is n k h z = grind (arith, nat_tests)

pub unary_of-one : (o : UnOp) (n k : ℕ) → number_of_unary o ≡ n → shift_count o ≡ k → unary_of n k ≡ o
unary_of-one Copy n k h e = grind (arith, nat_tests)
unary_of-one Not n k h e = grind (arith, nat_tests)
unary_of-one (Shl j) n k h e = grind (arith, nat_tests)
unary_of-one (Shr j) n k h e = grind (arith, nat_tests)
unary_of-one (Rol j) n k h e = grind (arith, nat_tests)

-- the condition of a number
abbrev pub condition_of : ℕ → Cond
condition_of n = if n == 0 then Always else if n == 1 then Z else if n == 2 then NZ else if n == 3 then C else NC

pub condition_of-is : (n : ℕ) → n ≤ 4 → number_of_condition (condition_of n) ≡ n
condition_of-is n h = grind (arith, nat_tests)

pub condition_of-one : (o : Cond) (n : ℕ) → number_of_condition o ≡ n → condition_of n ≡ o
condition_of-one Always n h = grind (arith, nat_tests)
condition_of-one Z n h = grind (arith, nat_tests)
condition_of-one NZ n h = grind (arith, nat_tests)
condition_of-one C n h = grind (arith, nat_tests)
condition_of-one NC n h = grind (arith, nat_tests)

-- the memory of a number
abbrev pub memory_of : ℕ → Mem
memory_of n = if n == 0 then Sram else if n == 1 then Sdram else Scratch

pub memory_of-is : (n : ℕ) → n ≤ 2 → number_of_memory (memory_of n) ≡ n
memory_of-is n h = grind (arith, nat_tests)

pub memory_of-one : (m : Mem) (n : ℕ) → number_of_memory m ≡ n → memory_of n ≡ m
memory_of-one Sram n h = grind (arith, nat_tests)
memory_of-one Sdram n h = grind (arith, nat_tests)
memory_of-one Scratch n h = grind (arith, nat_tests)
