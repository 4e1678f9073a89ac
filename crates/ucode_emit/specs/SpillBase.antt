-- What code does with B15, the register that holds the address of the first slot.
use Rattle.std.specs.Prelude.{◌≡◌, ◌≢◌, ℕ, ◌+◌, ◌≤◌, ⊤, List, All}
use Rattle.nv_base.specs.declared.term.Mem.{Mem}
use Rattle.nv_base.specs.declared.term.Mem.TheVariants.{Scratch}
use Rattle.uc_isa.specs.declared.instruction.Src.{Src}
use Rattle.uc_isa.specs.declared.instruction.Src.TheVariants as src
use Rattle.uc_isa.specs.declared.instruction.Dst.{Dst}
use Rattle.uc_isa.specs.declared.instruction.Dst.TheVariants as dst
use Rattle.uc_isa.specs.declared.instruction.Gpr.{Gpr}
use Rattle.uc_isa.specs.declared.instruction.Gpr.TheVariants as gpr
use Rattle.uc_isa.specs.declared.instruction.Instr.{Instr}
use Rattle.uc_isa.specs.declared.instruction.Instr.TheVariants.{Alu, Un, Immed, Br, Read, Write, Halt}

-- an operand, and a target, other than B15
abbrev pub IsOtherSource : Src → Type 0
IsOtherSource (src.B k) = k ≢ 15
IsOtherSource _ = ⊤

abbrev pub IsOtherTarget : Dst → Type 0
IsOtherTarget (dst.B k) = k ≢ 15
IsOtherTarget _ = ⊤

-- n words are accessed from an offset after an address: where B15 holds the address, they are slots, of which there are so many
abbrev pub KeepsToSlots : (slots : ℕ) → Mem → (n : ℕ) → Gpr → (off : ℕ) → Type 0
KeepsToSlots slots m n (gpr.A k) off = ⊤
KeepsToSlots slots m n (gpr.B k) off = k ≡ 15 → (m ≡ Scratch) × (off + n ≤ slots)

-- the instruction doesn't write B15, nor read it but as the address of slots
abbrev pub KeepsBase : ℕ → Instr → Type 0
KeepsBase slots (Alu d op x y) = IsOtherTarget d × IsOtherSource x × IsOtherSource y
KeepsBase slots (Un d op x) = IsOtherTarget d × IsOtherSource x
KeepsBase slots (Immed d v s) = IsOtherTarget d
KeepsBase slots (Br cond target) = ⊤
KeepsBase slots (Read m r n x off) = KeepsToSlots slots m n x off
KeepsBase slots (Write m r n x off) = KeepsToSlots slots m n x off
KeepsBase slots (Halt k n) = ⊤

-- all instructions of a code do so
abbrev pub SpillsByBase : ℕ → List Instr → Type 0
SpillsByBase slots code = All (KeepsBase slots) code
