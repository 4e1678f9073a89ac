-- How instructions are written: the words of each, and the ranges of what they name.
use Rattle.std.specs.Prelude.{ℕ, ◌<◌, ◌^◌, List, [], ◌∷◌, ◌++◌, codes, decimal, ⊤}
pub use Rattle.nv_base.specs.MemoryNames.{memory_name}
use Rattle.nv_base.specs.declared.term.Bin.{Bin}
use Rattle.nv_base.specs.declared.term.Bin.TheVariants.{Add, Sub, And, Or, Xor}
use Rattle.uc_isa.specs.declared.instruction.Src.{Src}
use Rattle.uc_isa.specs.declared.instruction.Src.TheVariants as src
use Rattle.uc_isa.specs.declared.instruction.Dst.{Dst}
use Rattle.uc_isa.specs.declared.instruction.Dst.TheVariants as dst
use Rattle.uc_isa.specs.declared.instruction.Gpr.{Gpr}
use Rattle.uc_isa.specs.declared.instruction.Gpr.TheVariants as gpr
use Rattle.uc_isa.specs.declared.instruction.UnOp.{UnOp}
use Rattle.uc_isa.specs.declared.instruction.UnOp.TheVariants.{Copy, Not, Shl, Shr, Rol}
use Rattle.uc_isa.specs.declared.instruction.Cond.{Cond}
use Rattle.uc_isa.specs.declared.instruction.Cond.TheVariants.{Always, Z, NZ, C, NC}
use Rattle.uc_isa.specs.declared.instruction.Instr.{Instr}
use Rattle.uc_isa.specs.declared.instruction.Instr.TheVariants.{Alu, Un, Immed, Br, Read, Write, Halt}

-- a register is its bank and its number
abbrev pub source_name : Src → List ℕ
source_name (src.A i) = codes "A" ++ decimal i
source_name (src.B i) = codes "B" ++ decimal i
source_name (src.L i) = codes "L" ++ decimal i
source_name (src.LD i) = codes "LD" ++ decimal i

abbrev pub target_name : Dst → List ℕ
target_name (dst.A i) = codes "A" ++ decimal i
target_name (dst.B i) = codes "B" ++ decimal i
target_name (dst.S i) = codes "S" ++ decimal i
target_name (dst.SD i) = codes "SD" ++ decimal i
target_name dst.Nowhere = codes "none"

abbrev pub address_name : Gpr → List ℕ
address_name (gpr.A i) = codes "A" ++ decimal i
address_name (gpr.B i) = codes "B" ++ decimal i

abbrev pub binary_name : Bin → List ℕ
binary_name Add = codes "ADD"
binary_name Sub = codes "SUB"
binary_name And = codes "AND"
binary_name Or = codes "OR"
binary_name Xor = codes "XOR"

-- an operation on one word, and the count of a shift
abbrev pub unary_words : UnOp → List (List ℕ)
unary_words Copy = codes "COPY" ∷ []
unary_words Not = codes "NOT" ∷ []
unary_words (Shl k) = codes "SHL" ∷ decimal k ∷ []
unary_words (Shr k) = codes "SHR" ∷ decimal k ∷ []
unary_words (Rol k) = codes "ROL" ∷ decimal k ∷ []

abbrev pub condition_name : Cond → List ℕ
condition_name Always = codes "ALWAYS"
condition_name Z = codes "Z"
condition_name NZ = codes "NZ"
condition_name C = codes "C"
condition_name NC = codes "NC"

-- a place of the code
abbrev pub register_name : ℕ → List ℕ
register_name n = codes "@" ++ decimal n

-- what stands after an instruction's kind
abbrev pub operands : Instr → List (List ℕ)
operands (Alu d op x y) = target_name d ∷ binary_name op ∷ source_name x ∷ source_name y ∷ []
operands (Un d op x) = target_name d ∷ (unary_words op ++ source_name x ∷ [])
operands (Immed d v s) = target_name d ∷ decimal v ∷ decimal s ∷ []
operands (Br cond place) = condition_name cond ∷ register_name place ∷ []
operands (Read m r n x off) = memory_name m ∷ decimal r ∷ decimal n ∷ address_name x ∷ decimal off ∷ []
operands (Write m r n x off) = memory_name m ∷ decimal r ∷ decimal n ∷ address_name x ∷ decimal off ∷ []
operands (Halt k n) = decimal k ∷ decimal n ∷ []

abbrev pub kind_name : Instr → List ℕ
kind_name (Alu d op x y) = codes "alu"
kind_name (Un d op x) = codes "un"
kind_name (Immed d v s) = codes "immed"
kind_name (Br cond place) = codes "br"
kind_name (Read m r n x off) = codes "read"
kind_name (Write m r n x off) = codes "write"
kind_name (Halt k n) = codes "halt"

-- the words of an instruction
abbrev pub words : Instr → List (List ℕ)
words i = kind_name i ∷ operands i

-- the registers that there are
abbrev pub IsSource : Src → Type 0
IsSource (src.A i) = i < 16
IsSource (src.B i) = i < 16
IsSource (src.L i) = i < 8
IsSource (src.LD i) = i < 8

abbrev pub IsTarget : Dst → Type 0
IsTarget (dst.A i) = i < 16
IsTarget (dst.B i) = i < 16
IsTarget (dst.S i) = i < 8
IsTarget (dst.SD i) = i < 8
IsTarget dst.Nowhere = ⊤

abbrev pub IsAddress : Gpr → Type 0
IsAddress (gpr.A i) = i < 16
IsAddress (gpr.B i) = i < 16

-- the count of a shift is one byte
abbrev pub IsUnary : UnOp → Type 0
IsUnary Copy = ⊤
IsUnary Not = ⊤
IsUnary (Shl k) = k < 2 ^ 8
IsUnary (Shr k) = k < 2 ^ 8
IsUnary (Rol k) = k < 2 ^ 8

-- the numbers of an instruction fit their fields
abbrev pub InRange : Instr → Type 0
InRange (Alu d op x y) = IsTarget d × IsSource x × IsSource y
InRange (Un d op x) = IsTarget d × IsUnary op × IsSource x
InRange (Immed d v s) = IsTarget d × (v < 2 ^ 16) × (s < 2 ^ 8)
InRange (Br cond place) = place < 2 ^ 32
InRange (Read m r n x off) = (r < 2 ^ 8) × (n < 2 ^ 8) × IsAddress x × (off < 2 ^ 8)
InRange (Write m r n x off) = (r < 2 ^ 8) × (n < 2 ^ 8) × IsAddress x × (off < 2 ^ 8)
InRange (Halt k n) = (k < 2 ^ 16) × (n < 2 ^ 8)
