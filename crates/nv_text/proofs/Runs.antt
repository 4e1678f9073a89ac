-- Runs of bytes that pass a test, and the numbers that digits give.
use Rattle.std.proofs.Common.{◌≡◌, ℕ, suc, ◌+◌, ◌*◌, ◌≤◌, ◌<◌, Bool, true, false, List, [], ◌∷◌, ◌++◌, length, take, drop, get_or, refl, ap, ◌∙◌, arith, drop-cons, add-one}
use Rattle.std.proofs.Math.Nat.{mul-le-mul_left}
use Rattle.std.specs.List.{prefix_len}
use Rattle.nv_text.specs.Spelling.{digit_value, number_after, Every}

-- one more byte passes
pub prefix_step : (p : ℕ → Bool) (bytes : List ℕ) (i : ℕ) → i < length bytes → p (get_or bytes i 0) ≡ true → prefix_len p (drop i bytes) ≡ 1 + prefix_len p (drop (i + 1) bytes)
prefix_step p bytes i h e = rw (add-one, drop-cons bytes i 0, e) refl

-- the next byte doesn't pass
pub prefix_stop : (p : ℕ → Bool) (bytes : List ℕ) (i : ℕ) → i < length bytes → p (get_or bytes i 0) ≡ false → prefix_len p (drop i bytes) ≡ 0
prefix_stop p bytes i h e = rw (drop-cons bytes i 0, e) refl

-- a run in front whose first byte passes
pub prefix_cons : (p : ℕ → Bool) (b : ℕ) (bytes : List ℕ) → p b ≡ true → prefix_len p (b ∷ bytes) ≡ suc (prefix_len p bytes)
prefix_cons p b bytes e = rw e (omega arith)

-- each byte of a run passes
pub prefix_every : (p : ℕ → Bool) (bytes : List ℕ) → Every p (take (prefix_len p bytes) bytes)
prefix_every p [] = tt
prefix_every p (b ∷ bs) = by_first (p b) refl (prefix_every p bs)
  where
    by_first : (t : Bool) → p b ≡ t → Every p (take (prefix_len p bs) bs) → Every p (take (prefix_len p (b ∷ bs)) (b ∷ bs))
    by_first true e f = rw (prefix_cons p b bs e) (e, f)
    by_first false e f = rw e tt

-- bytes in front that all pass are no more than the run
pub prefix_bound : (p : ℕ → Bool) (bytes w rest : List ℕ) → bytes ≡ w ++ rest → Every p w → length w ≤ prefix_len p bytes
prefix_bound p bytes [] rest e f = omega arith
prefix_bound p [] (b ∷ w) rest e f = let g : ⊥ = cc in absurd g
prefix_bound p (c ∷ bytes) (b ∷ w) rest e f =
    let g : c ≡ b = cc in
    let t : bytes ≡ w ++ rest = cc in
    let i = prefix_bound p bytes w rest t f.1 in
    let h : p c ≡ true = ap p g ∙ f.0 in
    rw (prefix_cons p c bytes h) (omega (arith, i))

-- the next digit is taken
pub number_step : (base n : ℕ) (digits : List ℕ) (i : ℕ) → i < length digits → number_after base n (drop i digits) ≡ number_after base (n * base + digit_value (get_or digits i 0)) (drop (i + 1) digits)
number_step base n digits i h = rw (add-one, drop-cons digits i 0) refl

-- more digits make no smaller number
pub number_grows : (base n : ℕ) (digits : List ℕ) → 0 < base → n ≤ number_after base n digits
number_grows base n [] h = omega arith
number_grows base n (d ∷ ds) h = let i = number_grows base (n * base + digit_value d) ds h in omega (arith, mul-le-mul_left n h, i)
