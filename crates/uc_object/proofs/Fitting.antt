-- A row is what fits its columns.
use Rattle.std.proofs.Common.{◌≡◌, ℕ, zero, suc, ◌<◌, ◌≤◌, List, [], ◌∷◌, length, get_or, refl, sym, subst, arith, nat_lt, if◌then◌else◌}
use Rattle.std.proofs.lemmas.Bool.Decides.{nat_tests}
use Rattle.nv_base.specs.declared.term.Mem.{Mem}
use Rattle.nv_base.specs.declared.term.Mem.TheVariants.{Sram, Sdram, Scratch}
use Rattle.nv_base.specs.declared.term.Bin.{Bin}
use Rattle.nv_base.specs.declared.term.Bin.TheVariants.{Add, Sub, And, Or, Xor}
use Rattle.uc_isa.specs.declared.instruction.Src.{Src}
use Rattle.uc_isa.specs.declared.instruction.Src.TheVariants as src
use Rattle.uc_isa.specs.declared.instruction.Dst.{Dst}
use Rattle.uc_isa.specs.declared.instruction.Dst.TheVariants as dst
use Rattle.uc_isa.specs.declared.instruction.Gpr.{Gpr}
use Rattle.uc_isa.specs.declared.instruction.Gpr.TheVariants as gpr
use Rattle.uc_isa.specs.declared.instruction.UnOp.{UnOp}
use Rattle.uc_isa.specs.declared.instruction.UnOp.TheVariants.{Copy, Not, Shl, Shr, Rol}
use Rattle.uc_isa.specs.declared.instruction.Cond.{Cond}
use Rattle.uc_isa.specs.declared.instruction.Cond.TheVariants.{Always, Z, NZ, C, NC}
use Rattle.uc_isa.specs.declared.instruction.Instr.{Instr}
use Rattle.uc_isa.specs.declared.instruction.Instr.TheVariants.{Alu, Un, Immed, Br, Read, Write, Halt}
use Rattle.uc_object.specs.Rows.{IsRow, IsSource, IsTarget, IsAddress, IsByte, shift_count, number_of_unary, number_of_binary, number_of_condition, number_of_memory}
use Rattle.uc_object.specs.Columns.{Fit, row_columns, Allows, only, any}
use Rattle.uc_object.specs.declared.byte_set.Column.TheVariants.{Source, Target}
use Rattle.uc_object.proofs.Reader.{source_of-is, target_of-is, address_of-is, binary_of-is, unary_of, unary_of-is, condition_of-is, memory_of-is}
use Rattle.uc_object.proofs.Reading.{alu-row, un-row, immed-row, br-row, read-row, write-row, halt-row}
use Rattle.uc_object.proofs.Single.{instruction_of}

source-allowed : (s : Src) (b : ℕ) → IsSource s b → Allows Source b
source-allowed (src.A i) b h = grind arith
source-allowed (src.B i) b h = grind arith
source-allowed (src.L i) b h = grind arith
source-allowed (src.LD i) b h = grind arith

target-allowed : (d : Dst) (b : ℕ) → IsTarget d b → Allows Target b
target-allowed (dst.A i) b h = grind arith
target-allowed (dst.B i) b h = grind arith
target-allowed (dst.S i) b h = grind arith
target-allowed (dst.SD i) b h = grind arith
target-allowed dst.Nowhere b h = grind arith

address-lt : (x : Gpr) (b : ℕ) → IsAddress x b → b ≤ 31
address-lt (gpr.A i) b h = omega arith
address-lt (gpr.B i) b h = omega arith

binary-le : (op : Bin) → number_of_binary op ≤ 4
binary-le Add = omega arith
binary-le Sub = omega arith
binary-le And = omega arith
binary-le Or = omega arith
binary-le Xor = omega arith

unary-le : (op : UnOp) → IsByte (shift_count op)
    → (number_of_unary op ≤ 4) × Allows (if nat_lt (number_of_unary op) 2 then only 0 else any) (shift_count op)
unary-le Copy h = (omega arith, (omega arith, omega arith))
unary-le Not h = (omega arith, (omega arith, omega arith))
unary-le (Shl k) h = (omega arith, (omega arith, omega arith))
unary-le (Shr k) h = (omega arith, (omega arith, omega arith))
unary-le (Rol k) h = (omega arith, (omega arith, omega arith))

condition-le : (op : Cond) → number_of_condition op ≤ 4
condition-le Always = omega arith
condition-le Z = omega arith
condition-le NZ = omega arith
condition-le C = omega arith
condition-le NC = omega arith

memory-le : (m : Mem) → number_of_memory m ≤ 2
memory-le Sram = omega arith
memory-le Sdram = omega arith
memory-le Scratch = omega arith

-- the bytes of a row are eight, and fit
abbrev pub FitsRow : List ℕ → Type 0
FitsRow row = (length row ≡ 8) × Fit (row_columns (get_or row 0 0) (get_or row 1 0)) row

zero-ok : Allows (only 0) 0
zero-ok = (omega arith, omega arith)

in-range : (n : ℕ) → n < 256 → (0 ≤ n) × (n ≤ 255)
in-range n h = (omega arith, omega arith)

upto : (n m : ℕ) → n ≤ m → (0 ≤ n) × (n ≤ m)
upto n m h = (omega arith, h)

pub row-fits : (i : Instr) (row : List ℕ) → IsRow i row → FitsRow row
row-fits (Alu d op x y) row h = subst FitsRow (sym h.6)
    (refl, (upto 0 6 (omega arith), (upto _ 4 (binary-le op), (target-allowed d h.0 h.3, (source-allowed x h.1 h.4, (source-allowed y h.2 h.5, (zero-ok, (zero-ok, (zero-ok, tt)))))))))
row-fits (Un d op x) row h = subst FitsRow (sym h.5)
    (refl, (upto 1 6 (omega arith), (upto _ 4 (unary-le op h.4).0, (target-allowed d h.0 h.2, (source-allowed x h.1 h.3, ((unary-le op h.4).1, (zero-ok, (zero-ok, (zero-ok, tt)))))))))
row-fits (Immed d v s) row h = subst FitsRow (sym h.4)
    (refl, (upto 2 6 (omega arith), (in-range s h.2, (target-allowed d h.0 h.1, (zero-ok, (in-range _ (omega arith), (in-range _ (omega arith), (zero-ok, (zero-ok, tt)))))))))
row-fits (Br cond v) row h = subst FitsRow (sym h.1)
    (refl, (upto 3 6 (omega arith), (upto _ 4 (condition-le cond), (zero-ok, (zero-ok, (in-range _ (omega arith), (in-range _ (omega arith), (in-range _ (omega arith), (in-range _ (omega arith), tt)))))))))
row-fits (Read m r n x off) row h = subst FitsRow (sym h.5)
    (refl, (upto 4 6 (omega arith), (upto _ 2 (memory-le m), (in-range r h.2, (in-range n h.3, (upto _ 31 (address-lt x h.0 h.1), (in-range off h.4, (zero-ok, (zero-ok, tt)))))))))
row-fits (Write m r n x off) row h = subst FitsRow (sym h.5)
    (refl, (upto 5 6 (omega arith), (upto _ 2 (memory-le m), (in-range r h.2, (in-range n h.3, (upto _ 31 (address-lt x h.0 h.1), (in-range off h.4, (zero-ok, (zero-ok, tt)))))))))
row-fits (Halt k n) row h = subst FitsRow (sym h.2)
    (refl, (upto 6 6 (omega arith), (in-range n h.0, (in-range _ (omega arith), (in-range _ (omega arith), (zero-ok, (zero-ok, (zero-ok, (zero-ok, tt)))))))))

-- the count of an operation that has none
no-count : (n k : ℕ) → Allows (if nat_lt n 2 then only 0 else any) k → (n < 2 → k ≡ 0) × (k < 256)
no-count n k h = grind (arith, nat_tests)

-- what fits is a row
pub fit-row : (row : List ℕ) → FitsRow row → IsRow (instruction_of row) row
fit-row (zero ∷ b ∷ c ∷ d ∷ e ∷ f ∷ g ∷ h ∷ []) fits =
    let fit = fits.1 in
    alu-row b c d e f g h _ _ _ _ fit (target_of-is c fit.1.1.0) (binary_of-is b fit.1.0.1) (source_of-is d fit.1.1.1.0) (source_of-is e fit.1.1.1.1.0)
fit-row (suc zero ∷ b ∷ c ∷ d ∷ e ∷ f ∷ g ∷ h ∷ []) fits =
    let fit = fits.1 in
    let count = no-count b e fit.1.1.1.1.0 in
    let op = unary_of-is b e fit.1.0.1 count.0 in
    un-row b c d e f g h _ (unary_of b e) _ fit count.1 (target_of-is c fit.1.1.0) op.0 op.1 (source_of-is d fit.1.1.1.0)
fit-row (suc (suc zero) ∷ b ∷ c ∷ d ∷ e ∷ f ∷ g ∷ h ∷ []) fits =
    let fit = fits.1 in
    immed-row b c d e f g h _ _ fit (target_of-is c fit.1.1.0) refl
fit-row (suc (suc (suc zero)) ∷ b ∷ c ∷ d ∷ e ∷ f ∷ g ∷ h ∷ []) fits =
    let fit = fits.1 in
    br-row b c d e f g h _ _ fit (condition_of-is b fit.1.0.1) refl
fit-row (suc (suc (suc (suc zero))) ∷ b ∷ c ∷ d ∷ e ∷ f ∷ g ∷ h ∷ []) fits =
    let fit = fits.1 in
    read-row b c d e f g h _ _ fit (memory_of-is b fit.1.0.1) (address_of-is e (omega arith))
fit-row (suc (suc (suc (suc (suc zero)))) ∷ b ∷ c ∷ d ∷ e ∷ f ∷ g ∷ h ∷ []) fits =
    let fit = fits.1 in
    write-row b c d e f g h _ _ fit (memory_of-is b fit.1.0.1) (address_of-is e (omega arith))
fit-row (suc (suc (suc (suc (suc (suc zero))))) ∷ b ∷ c ∷ d ∷ e ∷ f ∷ g ∷ h ∷ []) fits =
    halt-row b c d e f g h _ fits.1 refl
fit-row (suc (suc (suc (suc (suc (suc (suc a)))))) ∷ row) fits = absurd (omega (arith, fits.1.0.1))
fit-row _ fits = absurd (omega (arith, fits.0))
