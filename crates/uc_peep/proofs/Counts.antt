-- Places that are kept.
use Rattle.std.proofs.Common.{◌≡◌, ℕ, zero, suc, ◌+◌, ◌-◌, ◌<◌, ◌≤◌, Bool, true, false, List, [], ◌∷◌, length, Some, refl, sym, ap, subst, arith}
use Rattle.std.specs.Prelude.{slice_get}
use Rattle.std.proofs.lemmas.Bool.{false≢true}
use Rattle.uc_isa.specs.declared.instruction.Instr.{Instr}
use Rattle.uc_peep.specs.Kept.{compacted, is_gone, kept_before}
use Rattle.uc_isa.specs.Relocated.{relocated}

pub gone-next : (gone : List Bool) (x : ℕ) → is_gone gone x ≡ true → kept_before gone (suc x) ≡ kept_before gone x
gone-next [] x h = absurd (false≢true h)
gone-next (true ∷ gone) zero h = start gone
  where
    start : (gone : List Bool) → kept_before gone zero ≡ 0
    start [] = refl
    start (g ∷ gone) = refl
gone-next (false ∷ gone) zero h = absurd (false≢true h)
gone-next (true ∷ gone) (suc x) h = gone-next gone x h
gone-next (false ∷ gone) (suc x) h = ap suc (gone-next gone x h)

pub kept-zero : (gone : List Bool) → kept_before gone zero ≡ 0
kept-zero [] = refl
kept-zero (g ∷ gone) = refl

pub kept-next : (gone : List Bool) (x : ℕ) → x < length gone → is_gone gone x ≡ false → kept_before gone (suc x) ≡ suc (kept_before gone x)
kept-next [] x inside h = absurd (omega arith)
kept-next (true ∷ gone) zero inside h = absurd (false≢true (sym h))
kept-next (false ∷ gone) zero inside h = ap suc (kept-zero gone)
kept-next (true ∷ gone) (suc x) inside h = kept-next gone x (omega arith) h
kept-next (false ∷ gone) (suc x) inside h = ap suc (kept-next gone x (omega arith) h)

next-most : (gone : List Bool) (x : ℕ) → kept_before gone x ≤ kept_before gone (suc x)
next-most [] x = omega arith
next-most (true ∷ gone) zero = omega arith
next-most (false ∷ gone) zero = omega arith
next-most (true ∷ gone) (suc x) = next-most gone x
next-most (false ∷ gone) (suc x) = let h = next-most gone x in omega arith

kept-from : (gone : List Bool) (x d : ℕ) → kept_before gone x ≤ kept_before gone (d + x)
kept-from gone x zero = let none : 0 + x ≡ x = omega arith in subst (λ y. kept_before gone x ≤ kept_before gone y) (sym none) (omega arith)
kept-from gone x (suc d) =
    let more : suc d + x ≡ suc (d + x) = omega arith in
    let h = kept-from gone x d in
    let next = next-most gone (d + x) in
    subst (λ y. kept_before gone x ≤ kept_before gone y) (sym more) (omega arith)

pub kept-most : (gone : List Bool) (x y : ℕ) → x ≤ y → kept_before gone x ≤ kept_before gone y
kept-most gone x y h = let e : (y - x) + x ≡ y = omega arith in subst (λ z. kept_before gone x ≤ kept_before gone z) e (kept-from gone x (y - x))

-- a place that is kept between two
pub kept-between : (gone : List Bool) (x z y : ℕ) → x ≤ z → z < y → z < length gone → is_gone gone z ≡ false → kept_before gone x < kept_before gone y
kept-between gone x z y le lt inside h =
    let one = kept-most gone x z le in
    let next = kept-next gone z inside h in
    let two = kept-most gone (suc z) y (omega arith) in
    omega arith

pub kept-at : (f : ℕ → ℕ) (gone : List Bool) (code : List Instr) (x : ℕ) (i : Instr) → length gone ≡ length code → slice_get code x ≡ Some i → is_gone gone x ≡ false → slice_get (compacted f gone code) (kept_before gone x) ≡ Some (relocated f i)
kept-at f [] [] x i same at h = cc
kept-at f [] (j ∷ code) x i same at h = absurd (omega arith)
kept-at f (g ∷ gone) [] x i same at h = cc
kept-at f (true ∷ gone) (j ∷ code) zero i same at h = absurd (false≢true (sym h))
kept-at f (false ∷ gone) (j ∷ code) zero i same at h = let e : j ≡ i = cc in ap (λ k. Some (relocated f k)) e
kept-at f (true ∷ gone) (j ∷ code) (suc x) i same at h = kept-at f gone code x i (omega arith) at h
kept-at f (false ∷ gone) (j ∷ code) (suc x) i same at h = kept-at f gone code x i (omega arith) at h

pub length-compacted : (f : ℕ → ℕ) (gone : List Bool) (code : List Instr) → length gone ≡ length code → length (compacted f gone code) ≡ kept_before gone (length code)
length-compacted f [] [] same = refl
length-compacted f [] (j ∷ code) same = absurd (omega arith)
length-compacted f (g ∷ gone) [] same = absurd (omega arith)
length-compacted f (true ∷ gone) (j ∷ code) same = length-compacted f gone code (omega arith)
length-compacted f (false ∷ gone) (j ∷ code) same = ap suc (length-compacted f gone code (omega arith))
