-- Lawful code, by what each instruction is and where it stands.
use Rattle.std.proofs.Common.{◌≡◌, ℕ, ◌+◌, ◌<◌, ◌≤◌, inl, inr, List, length, Some, arith}
use Rattle.std.specs.Prelude.{slice_get}
use Rattle.std.proofs.lemmas.Option.{slice_get_within}
use Rattle.uc_isa.specs.Lawful.{IsLawful, IsLawfulAt, IsLast}
use Rattle.uc_isa.specs.declared.instruction.Cond.{Cond}
use Rattle.uc_isa.specs.declared.instruction.Cond.TheVariants.{Always, Z, NZ, C, NC}
use Rattle.uc_isa.specs.declared.instruction.Instr.{Instr}
use Rattle.uc_isa.specs.declared.instruction.Instr.TheVariants.{Alu, Un, Immed, Br, Read, Write, Halt}
use Rattle.uc_isa.specs.Program.{IsFormed, IsLawfulWithin, IsProgram}
use Rattle.uc_isa.specs.Resources.{IsNext}

pub formed-of : (code : List Instr) (x : ℕ) (i : Instr) → IsLawfulAt code x i → IsFormed i
formed-of code x i h = record { operands = h.operands; run_inside = h.run_inside; pairs = h.pairs; numbers = h.numbers; halt = h.halt }

pub within-of : (code : List Instr) (x : ℕ) (i : Instr) → IsLawfulAt code x i → IsLawfulWithin (length code) x i
within-of code x i h = record { formed = formed-of code x i h; target = h.target; last = h.last }

pub lawful_program : (code : List Instr) → 1 ≤ length code → IsLawful code → IsProgram code
lawful_program code some h = record { some = some; each = λ x i at. within-of code x i (h x i at) }

pub program_lawful : (code : List Instr) → IsProgram code → IsLawful code
program_lawful code h x i at =
    let w = h.each x i at in
    record { operands = w.formed.operands; run_inside = w.formed.run_inside; pairs = w.formed.pairs; numbers = w.formed.numbers; target = w.target; halt = w.formed.halt; last = w.last }

-- ---- next places of lawful code

before-last : (len x y : ℕ) → x < len → (x + 1 ≡ len → ⊥) → y ≡ x + 1 → y < len
before-last len x y inside last e = omega arith

branch-inside : (b : Cond) (len x y t : ℕ) → t < len → x < len → (x + 1 ≡ len → IsLast (Br b t)) → IsNext (Br b t) x y → y < len
branch-inside Always len x y t h inside last e = omega (arith, e)
branch-inside Z len x y t h inside last (inl e) = omega (arith, e)
branch-inside Z len x y t h inside last (inr e) = before-last len x y inside last e
branch-inside NZ len x y t h inside last (inl e) = omega (arith, e)
branch-inside NZ len x y t h inside last (inr e) = before-last len x y inside last e
branch-inside C len x y t h inside last (inl e) = omega (arith, e)
branch-inside C len x y t h inside last (inr e) = before-last len x y inside last e
branch-inside NC len x y t h inside last (inl e) = omega (arith, e)
branch-inside NC len x y t h inside last (inr e) = before-last len x y inside last e

pub lawful-next : (len x y : ℕ) (i : Instr) → x < len → IsLawfulWithin len x i → IsNext i x y → y < len
lawful-next len x y (Alu d op a b) inside h e = before-last len x y inside h.last e
lawful-next len x y (Un d op a) inside h e = before-last len x y inside h.last e
lawful-next len x y (Immed d v k) inside h e = before-last len x y inside h.last e
lawful-next len x y (Br b t) inside h e = branch-inside b len x y t h.target inside h.last e
lawful-next len x y (Read m r n a off) inside h e = before-last len x y inside h.last e
lawful-next len x y (Write m r n a off) inside h e = before-last len x y inside h.last e
lawful-next len x y (Halt k n) inside h e = absurd e

-- a next place of lawful code is inside
pub next-inside : (code : List Instr) (x y : ℕ) (i : Instr) → IsProgram code → slice_get code x ≡ Some i → IsNext i x y → y < length code
next-inside code x y i h at next = lawful-next (length code) x y i (slice_get_within code x i at) (h.each x i at) next
