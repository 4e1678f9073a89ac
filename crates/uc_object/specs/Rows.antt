-- The eight bytes of an instruction in an object.
use Rattle.std.specs.Prelude.{◌≡◌, ℕ, ◌+◌, ◌<◌, ◌^◌, List, [], ◌∷◌, ◌++◌}
use Rattle.std.specs.Int.{to_le_bytes, w16, w32}
use Rattle.nv_base.specs.declared.term.Mem.{Mem}
use Rattle.nv_base.specs.declared.term.Mem.TheVariants.{Sram, Sdram, Scratch}
use Rattle.nv_base.specs.declared.term.Bin.{Bin}
use Rattle.nv_base.specs.declared.term.Bin.TheVariants.{Add, Sub, And, Or, Xor}
use Rattle.uc_isa.specs.declared.instruction.Src.{Src}
use Rattle.uc_isa.specs.declared.instruction.Src.TheVariants as src
use Rattle.uc_isa.specs.declared.instruction.Dst.{Dst}
use Rattle.uc_isa.specs.declared.instruction.Dst.TheVariants as dst
use Rattle.uc_isa.specs.declared.instruction.Gpr.{Gpr}
use Rattle.uc_isa.specs.declared.instruction.Gpr.TheVariants as gpr
use Rattle.uc_isa.specs.declared.instruction.UnOp.{UnOp}
use Rattle.uc_isa.specs.declared.instruction.UnOp.TheVariants.{Copy, Not, Shl, Shr, Rol}
use Rattle.uc_isa.specs.declared.instruction.Cond.{Cond}
use Rattle.uc_isa.specs.declared.instruction.Cond.TheVariants.{Always, Z, NZ, C, NC}
use Rattle.uc_isa.specs.declared.instruction.Instr.{Instr}
use Rattle.uc_isa.specs.declared.instruction.Instr.TheVariants.{Alu, Un, Immed, Br, Read, Write, Halt}

-- the byte of register i of a bank that has `count` of them, the first spelled `first`
abbrev pub IsRegister : ℕ → ℕ → ℕ → ℕ → Type 0
IsRegister first count i byte = (i < count) × (byte ≡ first + i)

-- the byte of an operand
abbrev pub IsSource : Src → ℕ → Type 0
IsSource (src.A i) byte = IsRegister 0x00 16 i byte
IsSource (src.B i) byte = IsRegister 0x10 16 i byte
IsSource (src.L i) byte = IsRegister 0x20 8 i byte
IsSource (src.LD i) byte = IsRegister 0x30 8 i byte

-- the byte of the place of a result
abbrev pub IsTarget : Dst → ℕ → Type 0
IsTarget (dst.A i) byte = IsRegister 0x00 16 i byte
IsTarget (dst.B i) byte = IsRegister 0x10 16 i byte
IsTarget (dst.S i) byte = IsRegister 0x40 8 i byte
IsTarget (dst.SD i) byte = IsRegister 0x50 8 i byte
IsTarget dst.Nowhere byte = byte ≡ 0x60

-- the byte of a register with an address
abbrev pub IsAddress : Gpr → ℕ → Type 0
IsAddress (gpr.A i) byte = IsRegister 0x00 16 i byte
IsAddress (gpr.B i) byte = IsRegister 0x10 16 i byte

-- the number of an operation on two words
abbrev pub number_of_binary : Bin → ℕ
number_of_binary Add = 0
number_of_binary Sub = 1
number_of_binary And = 2
number_of_binary Or = 3
number_of_binary Xor = 4

-- the number of an operation on one word
abbrev pub number_of_unary : UnOp → ℕ
number_of_unary Copy = 0
number_of_unary Not = 1
number_of_unary (Shl k) = 2
number_of_unary (Shr k) = 3
number_of_unary (Rol k) = 4

-- the count of a shift, and 0 for the others
abbrev pub shift_count : UnOp → ℕ
shift_count Copy = 0
shift_count Not = 0
shift_count (Shl k) = k
shift_count (Shr k) = k
shift_count (Rol k) = k

-- the number of a branch's condition
abbrev pub number_of_condition : Cond → ℕ
number_of_condition Always = 0
number_of_condition Z = 1
number_of_condition NZ = 2
number_of_condition C = 3
number_of_condition NC = 4

-- the number of a memory
abbrev pub number_of_memory : Mem → ℕ
number_of_memory Sram = 0
number_of_memory Sdram = 1
number_of_memory Scratch = 2

-- a number of one byte
abbrev pub IsByte : ℕ → Type 0
IsByte n = n < 256

-- the eight bytes of an instruction: its kind, then its parts in this order, and zeros
abbrev pub IsRow : Instr → List ℕ → Type 0
IsRow (Alu d op x y) row = (db : ℕ) × (xb : ℕ) × (yb : ℕ) × IsTarget d db × IsSource x xb × IsSource y yb
    × (row ≡ 0 ∷ number_of_binary op ∷ db ∷ xb ∷ yb ∷ 0 ∷ 0 ∷ 0 ∷ [])
IsRow (Un d op x) row = (db : ℕ) × (xb : ℕ) × IsTarget d db × IsSource x xb × IsByte (shift_count op)
    × (row ≡ 1 ∷ number_of_unary op ∷ db ∷ xb ∷ shift_count op ∷ 0 ∷ 0 ∷ 0 ∷ [])
IsRow (Immed d v s) row = (db : ℕ) × IsTarget d db × IsByte s × (v < 2 ^ 16)
    × (row ≡ 2 ∷ s ∷ db ∷ 0 ∷ to_le_bytes w16 v ++ 0 ∷ 0 ∷ [])
IsRow (Br cond target) row = (target < 2 ^ 32)
    × (row ≡ 3 ∷ number_of_condition cond ∷ 0 ∷ 0 ∷ to_le_bytes w32 target)
IsRow (Read m r n x off) row = (xb : ℕ) × IsAddress x xb × IsByte r × IsByte n × IsByte off
    × (row ≡ 4 ∷ number_of_memory m ∷ r ∷ n ∷ xb ∷ off ∷ 0 ∷ 0 ∷ [])
IsRow (Write m r n x off) row = (xb : ℕ) × IsAddress x xb × IsByte r × IsByte n × IsByte off
    × (row ≡ 5 ∷ number_of_memory m ∷ r ∷ n ∷ xb ∷ off ∷ 0 ∷ 0 ∷ [])
IsRow (Halt k n) row = IsByte n × (k < 2 ^ 16)
    × (row ≡ 6 ∷ n ∷ to_le_bytes w16 k ++ 0 ∷ 0 ∷ 0 ∷ 0 ∷ [])
