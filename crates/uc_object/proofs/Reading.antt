-- A row that fits its columns is the row of an instruction.
use Rattle.std.proofs.Common.{◌≡◌, ℕ, zero, suc, ◌<◌, ◌≤◌, ◌^◌, List, [], ◌∷◌, length, get_or, refl, sym, subst, arith}
use Rattle.std.specs.Int.{to_le_bytes, from_le_bytes, w16, w32}
use Rattle.std.proofs.lemmas.Nat.{le_bytes_2, le_bytes_4}
use Rattle.nv_base.specs.declared.term.Mem.{Mem}
use Rattle.nv_base.specs.declared.term.Bin.{Bin}
use Rattle.uc_isa.specs.declared.instruction.Src.{Src}
use Rattle.uc_isa.specs.declared.instruction.Dst.{Dst}
use Rattle.uc_isa.specs.declared.instruction.Gpr.{Gpr}
use Rattle.uc_isa.specs.declared.instruction.UnOp.{UnOp}
use Rattle.uc_isa.specs.declared.instruction.Cond.{Cond}
use Rattle.uc_isa.specs.declared.instruction.Instr.{Instr}
use Rattle.uc_isa.specs.declared.instruction.Instr.TheVariants.{Alu, Un, Immed, Br, Read, Write, Halt}
use Rattle.uc_object.specs.Rows.{IsSource, IsTarget, IsAddress, IsRow, number_of_binary, number_of_unary, number_of_condition, number_of_memory, shift_count}
use Rattle.uc_object.specs.Columns.{Fit, row_columns}

each_of_two : (a b : ℕ) → a < 256 → b < 256 → (i : ℕ) → get_or (a ∷ b ∷ []) i 0 < 256
each_of_two a b ha hb zero = ha
each_of_two a b ha hb (suc zero) = hb
each_of_two a b ha hb (suc (suc i)) = omega arith

each_of_four : (a b c d : ℕ) → a < 256 → b < 256 → c < 256 → d < 256 → (i : ℕ) → get_or (a ∷ b ∷ c ∷ d ∷ []) i 0 < 256
each_of_four a b c d ha hb hc hd zero = ha
each_of_four a b c d ha hb hc hd (suc zero) = hb
each_of_four a b c d ha hb hc hd (suc (suc zero)) = hc
each_of_four a b c d ha hb hc hd (suc (suc (suc zero))) = hd
each_of_four a b c d ha hb hc hd (suc (suc (suc (suc i)))) = omega arith

-- the bytes of a number that was read from bytes
pub two_bytes : (a b v : ℕ) → a < 256 → b < 256 → v ≡ from_le_bytes w16 (a ∷ b ∷ []) → (v < 2 ^ 16) × (to_le_bytes w16 v ≡ a ∷ b ∷ [])
two_bytes a b v ha hb e = (omega arith, le_bytes_2 (a ∷ b ∷ []) v refl (each_of_two a b ha hb) e)

pub four_bytes : (a b c d v : ℕ) → a < 256 → b < 256 → c < 256 → d < 256 → v ≡ from_le_bytes w32 (a ∷ b ∷ c ∷ d ∷ []) → (v < 2 ^ 32) × (to_le_bytes w32 v ≡ a ∷ b ∷ c ∷ d ∷ [])
four_bytes a b c d v ha hb hc hd e = (omega arith, le_bytes_4 (a ∷ b ∷ c ∷ d ∷ []) v refl (each_of_four a b c d ha hb hc hd) e)

pub alu-row : (b1 b2 b3 b4 b5 b6 b7 : ℕ) (d : Dst) (op : Bin) (x y : Src) → Fit (row_columns 0 b1) (0 ∷ b1 ∷ b2 ∷ b3 ∷ b4 ∷ b5 ∷ b6 ∷ b7 ∷ [])
    → IsTarget d b2 → number_of_binary op ≡ b1 → IsSource x b3 → IsSource y b4 → IsRow (Alu d op x y) (0 ∷ b1 ∷ b2 ∷ b3 ∷ b4 ∷ b5 ∷ b6 ∷ b7 ∷ [])
alu-row b1 b2 b3 b4 b5 b6 b7 d op x y f t n s u =
    let e5 : b5 ≡ 0 = omega arith in
    let e6 : b6 ≡ 0 = omega arith in
    let e7 : b7 ≡ 0 = omega arith in
    (b2, b3, b4, t, s, u, cc)

pub un-row : (b1 b2 b3 b4 b5 b6 b7 : ℕ) (d : Dst) (op : UnOp) (x : Src) → Fit (row_columns 1 b1) (1 ∷ b1 ∷ b2 ∷ b3 ∷ b4 ∷ b5 ∷ b6 ∷ b7 ∷ [])
    → b4 < 256 → IsTarget d b2 → number_of_unary op ≡ b1 → shift_count op ≡ b4 → IsSource x b3 → IsRow (Un d op x) (1 ∷ b1 ∷ b2 ∷ b3 ∷ b4 ∷ b5 ∷ b6 ∷ b7 ∷ [])
un-row b1 b2 b3 b4 b5 b6 b7 d op x f byte t n k s =
    let e5 : b5 ≡ 0 = omega arith in
    let e6 : b6 ≡ 0 = omega arith in
    let e7 : b7 ≡ 0 = omega arith in
    (b2, b3, t, s, rw k byte, cc)

pub immed-row : (b1 b2 b3 b4 b5 b6 b7 : ℕ) (d : Dst) (v : ℕ) → Fit (row_columns 2 b1) (2 ∷ b1 ∷ b2 ∷ b3 ∷ b4 ∷ b5 ∷ b6 ∷ b7 ∷ [])
    → IsTarget d b2 → v ≡ from_le_bytes w16 (b4 ∷ b5 ∷ []) → IsRow (Immed d v b1) (2 ∷ b1 ∷ b2 ∷ b3 ∷ b4 ∷ b5 ∷ b6 ∷ b7 ∷ [])
immed-row b1 b2 b3 b4 b5 b6 b7 d v f t e =
    let e3 : b3 ≡ 0 = omega arith in
    let e6 : b6 ≡ 0 = omega arith in
    let e7 : b7 ≡ 0 = omega arith in
    let two : (v < 2 ^ 16) × (to_le_bytes w16 v ≡ b4 ∷ b5 ∷ []) = two_bytes b4 b5 v (omega arith) (omega arith) e in
    (b2, t, omega arith, two.0, cc)

pub br-row : (b1 b2 b3 b4 b5 b6 b7 : ℕ) (cond : Cond) (v : ℕ) → Fit (row_columns 3 b1) (3 ∷ b1 ∷ b2 ∷ b3 ∷ b4 ∷ b5 ∷ b6 ∷ b7 ∷ [])
    → number_of_condition cond ≡ b1 → v ≡ from_le_bytes w32 (b4 ∷ b5 ∷ b6 ∷ b7 ∷ []) → IsRow (Br cond v) (3 ∷ b1 ∷ b2 ∷ b3 ∷ b4 ∷ b5 ∷ b6 ∷ b7 ∷ [])
br-row b1 b2 b3 b4 b5 b6 b7 cond v f n e =
    let e2 : b2 ≡ 0 = omega arith in
    let e3 : b3 ≡ 0 = omega arith in
    let four : (v < 2 ^ 32) × (to_le_bytes w32 v ≡ b4 ∷ b5 ∷ b6 ∷ b7 ∷ []) = four_bytes b4 b5 b6 b7 v (omega arith) (omega arith) (omega arith) (omega arith) e in
    (four.0, cc)

pub read-row : (b1 b2 b3 b4 b5 b6 b7 : ℕ) (m : Mem) (x : Gpr) → Fit (row_columns 4 b1) (4 ∷ b1 ∷ b2 ∷ b3 ∷ b4 ∷ b5 ∷ b6 ∷ b7 ∷ [])
    → number_of_memory m ≡ b1 → IsAddress x b4 → IsRow (Read m b2 b3 x b5) (4 ∷ b1 ∷ b2 ∷ b3 ∷ b4 ∷ b5 ∷ b6 ∷ b7 ∷ [])
read-row b1 b2 b3 b4 b5 b6 b7 m x f n a =
    let e6 : b6 ≡ 0 = omega arith in
    let e7 : b7 ≡ 0 = omega arith in
    (b4, a, omega arith, omega arith, omega arith, cc)

pub write-row : (b1 b2 b3 b4 b5 b6 b7 : ℕ) (m : Mem) (x : Gpr) → Fit (row_columns 5 b1) (5 ∷ b1 ∷ b2 ∷ b3 ∷ b4 ∷ b5 ∷ b6 ∷ b7 ∷ [])
    → number_of_memory m ≡ b1 → IsAddress x b4 → IsRow (Write m b2 b3 x b5) (5 ∷ b1 ∷ b2 ∷ b3 ∷ b4 ∷ b5 ∷ b6 ∷ b7 ∷ [])
write-row b1 b2 b3 b4 b5 b6 b7 m x f n a =
    let e6 : b6 ≡ 0 = omega arith in
    let e7 : b7 ≡ 0 = omega arith in
    (b4, a, omega arith, omega arith, omega arith, cc)

pub halt-row : (b1 b2 b3 b4 b5 b6 b7 k : ℕ) → Fit (row_columns 6 b1) (6 ∷ b1 ∷ b2 ∷ b3 ∷ b4 ∷ b5 ∷ b6 ∷ b7 ∷ [])
    → k ≡ from_le_bytes w16 (b2 ∷ b3 ∷ []) → IsRow (Halt k b1) (6 ∷ b1 ∷ b2 ∷ b3 ∷ b4 ∷ b5 ∷ b6 ∷ b7 ∷ [])
halt-row b1 b2 b3 b4 b5 b6 b7 k f e =
    let e4 : b4 ≡ 0 = omega arith in
    let e5 : b5 ≡ 0 = omega arith in
    let e6 : b6 ≡ 0 = omega arith in
    let e7 : b7 ≡ 0 = omega arith in
    let two : (k < 2 ^ 16) × (to_le_bytes w16 k ≡ b2 ∷ b3 ∷ []) = two_bytes b2 b3 k (omega arith) (omega arith) e in
    (omega arith, two.0, cc)

-- the bytes of a row one by one
pub eight_bytes : (row : List ℕ) → length row ≡ 8
    → row ≡ get_or row 0 0 ∷ get_or row 1 0 ∷ get_or row 2 0 ∷ get_or row 3 0 ∷ get_or row 4 0 ∷ get_or row 5 0 ∷ get_or row 6 0 ∷ get_or row 7 0 ∷ []
eight_bytes (a ∷ b ∷ c ∷ d ∷ e ∷ f ∷ g ∷ h ∷ []) l = refl
eight_bytes _ l = absurd (omega arith)

-- a row of one kind
pub of_kind : (k : ℕ) (row : List ℕ) (i : Instr) → length row ≡ 8 → get_or row 0 0 ≡ k → Fit (row_columns (get_or row 0 0) (get_or row 1 0)) row
    → (let rest = get_or row 1 0 ∷ get_or row 2 0 ∷ get_or row 3 0 ∷ get_or row 4 0 ∷ get_or row 5 0 ∷ get_or row 6 0 ∷ get_or row 7 0 ∷ [] in
    Fit (row_columns k (get_or row 1 0)) (k ∷ rest) → IsRow i (k ∷ rest))
    → IsRow i row
of_kind k (a ∷ b ∷ c ∷ d ∷ e ∷ f ∷ g ∷ h ∷ []) i l n fit have =
    subst (λ z. IsRow i (z ∷ b ∷ c ∷ d ∷ e ∷ f ∷ g ∷ h ∷ [])) (sym n)
    (have (subst (λ z. Fit (row_columns z b) (z ∷ b ∷ c ∷ d ∷ e ∷ f ∷ g ∷ h ∷ [])) n fit))
of_kind k _ i l n fit have = absurd (omega arith)

-- there are seven kinds
pub kind-le : (row : List ℕ) → length row ≡ 8 → Fit (row_columns (get_or row 0 0) (get_or row 1 0)) row → get_or row 0 0 ≤ 6
kind-le (a ∷ row) l fit = fit.0.1
kind-le [] l fit = absurd (omega arith)
