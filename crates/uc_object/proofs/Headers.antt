-- The header of an object.
use Rattle.std.proofs.Common.{◌≡◌, ℕ, ◌+◌, ◌/◌, ◌%◌, ◌<◌, ◌≤◌, ◌^◌, ◌⊎◌, inl, inr, List, [], ◌∷◌, ◌++◌, length, get_or, refl, sym, subst, arith, drop, if◌then◌else◌, ◌==◌}
use Rattle.std.specs.Int.{from_le_bytes, to_le_bytes, w32}
use Rattle.std.proofs.lemmas.Bool.Decides.{nat_tests}
use Rattle.std.proofs.lemmas.Bool.{cases_lt}
use Rattle.uc_object.specs.Object.{header_of}
use Rattle.uc_object.specs.inner.Header.{HasHeader}
use Rattle.uc_object.specs.Columns.{Fit, header_columns}
use Rattle.uc_object.specs.declared.byte_set.Column.{Column}
use Rattle.uc_object.proofs.Faults.{fit-length}
use Rattle.uc_object.proofs.Numbers.{number-same}
use Rattle.uc_object.proofs.Reading.{four_bytes}

-- the bytes fit the columns of a header
abbrev pub FitsHeader : List ℕ → Type 0
FitsHeader bs = Fit (header_columns (get_or bs 8 0) (get_or bs 9 0) (get_or bs 10 0)) bs

-- bytes that fit begin with a header
pub fits-header : (bs : List ℕ) (n : ℕ) → FitsHeader bs → n ≡ from_le_bytes w32 (get_or bs 8 0 ∷ get_or bs 9 0 ∷ get_or bs 10 0 ∷ get_or bs 11 0 ∷ [])
    → HasHeader bs (get_or bs 3 0) (get_or bs 4 0) n (drop 12 bs)
fits-header (b0 ∷ b1 ∷ b2 ∷ b3 ∷ b4 ∷ b5 ∷ b6 ∷ b7 ∷ b8 ∷ b9 ∷ b10 ∷ b11 ∷ rest) n f e =
    let e0 : b0 ≡ 78 = omega arith in
    let e1 : b1 ≡ 86 = omega arith in
    let e2 : b2 ≡ 79 = omega arith in
    let e5 : b5 ≡ 0 = omega arith in
    let e6 : b6 ≡ 0 = omega arith in
    let e7 : b7 ≡ 0 = omega arith in
    let last : ((if b8 + b9 + b10 == 0 then 1 else 0) ≤ b11) × (b11 ≤ 127) = f.1.1.1.1.1.1.1.1.1.1.1.0 in
    let four : (n < 2 ^ 32) × (to_le_bytes w32 n ≡ b8 ∷ b9 ∷ b10 ∷ b11 ∷ []) = four_bytes b8 b9 b10 b11 n (omega arith) (omega arith) (omega arith) (omega arith) e in
    record {
      layout = cc;
      known = elim (cases_lt b3 50) [ inl less ↦ inl (omega arith) | inr more ↦ inr (omega arith) ];
      arguments = omega arith;
      some = grind (arith, nat_tests);
      few = omega arith;
    }
fits-header bs n f e = let long = fit-length (header_columns (get_or bs 8 0) (get_or bs 9 0) (get_or bs 10 0)) bs f in absurd (omega arith)

-- the last byte of a count
last : (n : ℕ) → 1 ≤ n → n < 2 ^ 31 → ((if n % 256 + n / 256 % 256 + n / 65536 % 256 == 0 then 1 else 0) ≤ n / 16777216 % 256) × (n / 16777216 % 256 ≤ 127)
last n h k = grind (arith, nat_tests)

-- a header fits
pub header-fits : (v p n : ℕ) (rest : List ℕ) → (49 ≤ v) × (v ≤ 50) → p ≤ 8 → 1 ≤ n → n < 2 ^ 31 → FitsHeader (header_of v p n ++ rest)
header-fits v p n rest known h some few =
    let only : (x : ℕ) → (x ≤ x) × (x ≤ x) = λ (x : ℕ). (omega arith, omega arith) in
    let any : (x : ℕ) → x < 256 → (0 ≤ x) × (x ≤ 255) = λ (x : ℕ) (h : x < 256). (omega arith, omega arith) in
    (only 78, (only 86, (only 79, (known, ((omega arith, h), (only 0, (only 0, (only 0, (any _ (omega arith), (any _ (omega arith), (any _ (omega arith), (last n some few, tt))))))))))))

a-version : (v : ℕ) → (v ≡ 49) ⊎ (v ≡ 50) → (49 ≤ v) × (v ≤ 50)
a-version v (inl h) = (omega arith, omega arith)
a-version v (inr h) = (omega arith, omega arith)

pub has-fits : (bs : List ℕ) (v p n : ℕ) (rest : List ℕ) → HasHeader bs v p n rest → FitsHeader bs
has-fits bs v p n rest h = subst FitsHeader (sym h.layout) (header-fits v p n rest (a-version v h.known) h.arguments h.some h.few)

-- the columns that the code finds are those of the bytes
pub its-columns : (bs : List ℕ) (a b c : ℕ) (cs : List Column) → cs ≡ header_columns a b c → a ≡ get_or bs 8 0 → b ≡ get_or bs 9 0 → c ≡ get_or bs 10 0
    → cs ≡ header_columns (get_or bs 8 0) (get_or bs 9 0) (get_or bs 10 0)
its-columns bs a b c cs e p q r = cc

pub header_columns-length : (a b c : ℕ) → length (header_columns a b c) ≡ 12
header_columns-length a b c = refl

-- a header tells its numbers, and where it ends
pub header-same : (v w p q n m : ℕ) (r s : List ℕ) → n < 2 ^ 32 → m < 2 ^ 32 → header_of v p n ++ r ≡ header_of w q m ++ s → (v ≡ w) × (p ≡ q) × (n ≡ m) × (r ≡ s)
header-same v w p q n m r s hn hm e =
    let bytes : to_le_bytes w32 n ++ r ≡ to_le_bytes w32 m ++ s = cc in
    let count = number-same n m r s hn hm bytes in
    (cc, cc, count.0, count.1)
