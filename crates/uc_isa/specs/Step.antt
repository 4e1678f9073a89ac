-- What one instruction does.
use Rattle.std.specs.Prelude.{◌≡◌, ℕ, ◌+◌, ◌^◌, List, ◌++◌, Option, Some, None, Bool, true, false, not, nat_le, nat_eq, slice_get, slice_index, slice_set, take, drop, length, if◌then◌else◌, ⊤}
use Rattle.nv_base.specs.declared.term.Mem.{Mem}
use Rattle.nv_base.specs.declared.term.Mem.TheVariants.{Sram, Sdram, Scratch}
use Rattle.nv_base.specs.declared.term.Bin.{Bin}
use Rattle.nv_base.specs.declared.term.Bin.TheVariants.{Add, Sub, And, Or, Xor}
use Rattle.nv_base.specs.declared.term.Una.TheVariants as una
use Rattle.nv_base.specs.Memories.{Memories, fetched, stored}
use Rattle.nv_base.specs.Words.{bin_word, una_word, shifted_left}
use Rattle.uc_isa.specs.declared.instruction.Src.{Src}
use Rattle.uc_isa.specs.declared.instruction.Src.TheVariants as src
use Rattle.uc_isa.specs.declared.instruction.Dst.{Dst}
use Rattle.uc_isa.specs.declared.instruction.Dst.TheVariants as dst
use Rattle.uc_isa.specs.declared.instruction.Gpr.{Gpr}
use Rattle.uc_isa.specs.declared.instruction.Gpr.TheVariants as gpr
use Rattle.uc_isa.specs.declared.instruction.UnOp.{UnOp}
use Rattle.uc_isa.specs.declared.instruction.UnOp.TheVariants.{Copy, Not, Shl, Shr, Rol}
use Rattle.uc_isa.specs.declared.instruction.Cond.{Cond}
use Rattle.uc_isa.specs.declared.instruction.Cond.TheVariants.{Always, Z, NZ, C, NC}
use Rattle.uc_isa.specs.declared.instruction.Instr.{Instr}
use Rattle.uc_isa.specs.declared.instruction.Instr.TheVariants.{Alu, Un, Immed, Br, Read, Write, Halt}
use Rattle.uc_isa.specs.declared.engine.Engine.{Engine}
use Rattle.uc_isa.specs.declared.engine.Stepped.{Stepped}
use Rattle.uc_isa.specs.declared.engine.Stepped.TheVariants.{Went, Wrote, Halted, Fault}

-- what a step was, with the engine and the memories after it
pub record Next : Type 0 where
  pub stepped : Stepped
  pub engine : Engine
  pub packet : Memories

-- this is what the step was, and how it left the engine and the memories
pub record IsNext (next : Next) (stepped : Stepped) (e : Engine) (p : Memories) : Type 0 where
  pub is_stepped : stepped ≡ next.stepped
  pub is_engine : e ≡ next.engine
  pub is_packet : p ≡ next.packet

-- the run is over with this step
abbrev pub EndsRun : Stepped → Type 0
EndsRun Went = ⊥
EndsRun (Wrote w) = ⊥
EndsRun (Halted k words) = ⊤
EndsRun (Fault m at) = ⊤

-- the word of an operand
abbrev pub operand : Src → Engine → ℕ
operand (src.A r) e = slice_index e.a r
operand (src.B r) e = slice_index e.b r
operand (src.L r) e = slice_index e.l r
operand (src.LD r) e = slice_index e.ld r

-- the word of an address register
abbrev pub address : Gpr → Engine → ℕ
address (gpr.A r) e = slice_index e.a r
address (gpr.B r) e = slice_index e.b r

-- the engine with this word at a target
abbrev pub with_result : Dst → ℕ → Engine → Engine
with_result (dst.A r) v e = record e { a = slice_set e.a r v }
with_result (dst.B r) v e = record e { b = slice_set e.b r v }
with_result (dst.S r) v e = record e { s = slice_set e.s r v }
with_result (dst.SD r) v e = record e { sd = slice_set e.sd r v }
with_result dst.Nowhere v e = e

-- the carry of an operation: a sum beyond 32 bits, a difference that isn't negative
abbrev pub bin_carry : Bin → ℕ → ℕ → Bool
bin_carry Add x y = nat_le (2 ^ 32) (x + y)
bin_carry Sub x y = nat_le y x
bin_carry And x y = false
bin_carry Or x y = false
bin_carry Xor x y = false

-- the word of an operation on one word
abbrev pub un_word : UnOp → ℕ → ℕ
un_word Copy x = x
un_word Not x = una_word una.Not x
un_word (Shl k) x = una_word (una.Shl k) x
un_word (Shr k) x = una_word (una.Shr k) x
un_word (Rol k) x = una_word (una.Rol k) x

-- the engine with the flags: zero by this word, and this carry
abbrev pub with_flags : ℕ → Bool → Engine → Engine
with_flags v carry e = record e { z = nat_eq v 0; c = carry }

-- the condition holds
abbrev pub holds : Cond → Engine → Bool
holds Always e = true
holds Z e = e.z
holds NZ e = not e.z
holds C e = e.c
holds NC e = not e.c

-- the engine at the next place
abbrev pub onward : Engine → Engine
onward e = record e { place = e.place + 1 }

-- the engine after a branch
abbrev pub branched : Bool → ℕ → Engine → Engine
branched taken target e = record e { place = if taken then target else e.place + 1 }

-- the words of a bank with these ones from a number on
abbrev pub filled : List ℕ → ℕ → List ℕ → List ℕ
filled words r ws = take r words ++ ws ++ drop (r + length ws) words

-- the engine with these words in the read registers of a memory, from a number on
abbrev pub with_read : Mem → ℕ → List ℕ → Engine → Engine
with_read Sram r ws e = record e { l = filled e.l r ws }
with_read Sdram r ws e = record e { ld = filled e.ld r ws }
with_read Scratch r ws e = record e { l = filled e.l r ws }

-- the write registers of a memory
abbrev pub write_registers : Mem → Engine → List ℕ
write_registers Sram e = e.s
write_registers Sdram e = e.sd
write_registers Scratch e = e.s

-- a read that gave these words, or reached past the memory
abbrev pub after_read : Mem → ℕ → ℕ → Option (List ℕ) → Engine → Memories → Next
after_read m r at (Some ws) e p = record { stepped = Went; engine = onward (with_read m r ws e); packet = p }
after_read m r at None e p = record { stepped = Fault m at; engine = e; packet = p }

-- a write of these words that gave these memories, or reached past the memory
abbrev pub after_write : Mem → ℕ → List ℕ → Option Memories → Engine → Memories → Next
after_write m at ws (Some p') e p = record { stepped = Wrote (record { mem = m; at = at; words = ws }); engine = onward e; packet = p' }
after_write m at ws None e p = record { stepped = Fault m at; engine = e; packet = p }

-- what one instruction does; operands are read before the target is written, and an address may exceed 32 bits
abbrev pub effect : Instr → Engine → Memories → Next
effect (Alu d op x y) e p =
    let v = bin_word op (operand x e) (operand y e) in
    let carry = bin_carry op (operand x e) (operand y e) in
    record { stepped = Went; engine = onward (with_flags v carry (with_result d v e)); packet = p }
effect (Un d op x) e p =
    let v = un_word op (operand x e) in
    record { stepped = Went; engine = onward (with_flags v false (with_result d v e)); packet = p }
effect (Immed d v s) e p = record { stepped = Went; engine = onward (with_result d (shifted_left s v) e); packet = p }
effect (Br cond target) e p = record { stepped = Went; engine = branched (holds cond e) target e; packet = p }
effect (Read m r n x off) e p =
    let at = address x e + off in
    after_read m r at (fetched m at n p) e p
effect (Write m r n x off) e p =
    let at = address x e + off in
    let ws = take n (drop r (write_registers m e)) in
    after_write m at ws (stored m at ws p) e p
effect (Halt k n) e p = record { stepped = Halted k (take n e.a); engine = e; packet = p }

-- one step by the instruction at the place; at a place outside the code, which lawful code never reaches, nothing happens
abbrev pub step_at : Option Instr → Engine → Memories → Next
step_at (Some i) e p = effect i e p
step_at None e p = record { stepped = Went; engine = e; packet = p }

abbrev pub step : List Instr → Engine → Memories → Next
step code e p = step_at (slice_get code e.place) e p
