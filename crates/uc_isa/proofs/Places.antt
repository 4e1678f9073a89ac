-- Steps of lawful code stay inside it.
use Rattle.std.proofs.Common.{◌≡◌, ℕ, ◌+◌, ◌<◌, List, length, refl, sym, subst, arith}
use Rattle.std.specs.Prelude.{Bool, true, false, Option, Some, None}
use Rattle.nv_base.specs.declared.term.Mem.{Mem}
use Rattle.nv_base.specs.declared.term.Mem.TheVariants.{Sram, Sdram, Scratch}
use Rattle.nv_base.specs.Memories.{Memories}
use Rattle.uc_isa.specs.Lawful.{IsLawfulAt}
use Rattle.uc_isa.specs.Step.{effect, after_read, after_write, with_result, with_read, holds, branched}
use Rattle.uc_isa.specs.declared.instruction.Dst.{Dst}
use Rattle.uc_isa.specs.declared.instruction.Dst.TheVariants as dst
use Rattle.uc_isa.specs.declared.instruction.Cond.{Cond}
use Rattle.uc_isa.specs.declared.instruction.Cond.TheVariants.{Always, Z, NZ, C, NC}
use Rattle.uc_isa.specs.declared.instruction.Instr.{Instr}
use Rattle.uc_isa.specs.declared.instruction.Instr.TheVariants.{Alu, Un, Immed, Br, Read, Write, Halt}
use Rattle.uc_isa.specs.declared.engine.Engine.{Engine}

-- a result doesn't move the engine
pub place-with_result : (d : Dst) (v : ℕ) (e : Engine) → (with_result d v e).place ≡ e.place
place-with_result (dst.A r) v e = refl
place-with_result (dst.B r) v e = refl
place-with_result (dst.S r) v e = refl
place-with_result (dst.SD r) v e = refl
place-with_result dst.Nowhere v e = refl

pub place-with_read : (m : Mem) (r : ℕ) (ws : List ℕ) (e : Engine) → (with_read m r ws e).place ≡ e.place
place-with_read Sram r ws e = refl
place-with_read Sdram r ws e = refl
place-with_read Scratch r ws e = refl

read-inside : (m : Mem) (r at len : ℕ) (o : Option (List ℕ)) (e : Engine) (p : Memories) → e.place + 1 < len → (after_read m r at o e p).engine.place < len
read-inside m r at len (Some ws) e p h = subst (λ n. n + 1 < len) (sym (place-with_read m r ws e)) h
read-inside m r at len None e p h = omega arith

write-inside : (m : Mem) (at len : ℕ) (ws : List ℕ) (o : Option Memories) (e : Engine) (p : Memories) → e.place + 1 < len → (after_write m at ws o e p).engine.place < len
write-inside m at len ws (Some q) e p h = h
write-inside m at len ws None e p h = omega arith

branch-inside : (taken : Bool) (target len : ℕ) (e : Engine) → target < len → (taken ≡ false → e.place + 1 < len) → (branched taken target e).place < len
branch-inside true target len e t h = t
branch-inside false target len e t h = h refl

-- an instruction that may be followed by the next place isn't the last one
goes-on : (len place : ℕ) → place < len → (place + 1 ≡ len → ⊥) → place + 1 < len
goes-on len place inside h = omega arith

next-inside : (code : List Instr) (e : Engine) (c : Cond) (target : ℕ) → IsLawfulAt code e.place (Br c target) → e.place < length code → holds c e ≡ false → e.place + 1 < length code
next-inside code e Always target h inside f = cc
next-inside code e Z target h inside f = goes-on (length code) e.place inside h.last
next-inside code e NZ target h inside f = goes-on (length code) e.place inside h.last
next-inside code e C target h inside f = goes-on (length code) e.place inside h.last
next-inside code e NC target h inside f = goes-on (length code) e.place inside h.last

pub effect-inside : (code : List Instr) (i : Instr) (e : Engine) (p : Memories) → IsLawfulAt code e.place i → e.place < length code → (effect i e p).engine.place < length code
effect-inside code (Alu d op x y) e p h inside = subst (λ n. n + 1 < length code) (sym (place-with_result d _ e)) (goes-on (length code) e.place inside h.last)
effect-inside code (Un d op x) e p h inside = subst (λ n. n + 1 < length code) (sym (place-with_result d _ e)) (goes-on (length code) e.place inside h.last)
effect-inside code (Immed d v s) e p h inside = subst (λ n. n + 1 < length code) (sym (place-with_result d _ e)) (goes-on (length code) e.place inside h.last)
effect-inside code (Br c target) e p h inside = branch-inside (holds c e) target (length code) e h.target (next-inside code e c target h inside)
effect-inside code (Read m r n x off) e p h inside = read-inside m r _ (length code) _ e p (goes-on (length code) e.place inside h.last)
effect-inside code (Write m r n x off) e p h inside = write-inside m _ (length code) _ _ e p (goes-on (length code) e.place inside h.last)
effect-inside code (Halt k n) e p h inside = inside
