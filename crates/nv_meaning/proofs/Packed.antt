-- Bits of packed words, read and written from a place on.
use Rattle.std.proofs.Common.{◌≡◌, ◌∙◌, refl, ap, sym, ℕ, zero, suc, ◌+◌, ◌-◌, ◌*◌, ◌/◌, ◌%◌, ◌^◌, ◌<◌, ◌≤◌, min, List, [], ◌∷◌, ◌++◌, take, drop, length, replicate, append_assoc, append-nil, ◌⊎◌, inl, inr, length-append, length-drop, arith}
use Rattle.std.proofs.Math.Seq.{take-append_seam, drop-append_seam}
use Rattle.std.proofs.lemmas.List.{drop-drop, length-take-le, take-append-drop, drop-replicate, length-replicate, take_min, drop_all}
use Rattle.nv_ast.specs.Bits.{bits, number, packed, slice, replaced}
use Rattle.nv_layout.proofs.BitLists.{number-bits, packed-append, length-packed, length-front, length-replaced}
use Rattle.nv_meaning.specs.inner.Blanks.{IsBlankFrom}

-- ---- reading

-- the words from the q-th on are the bits from the 32q-th on
pub packed-drop : (ws : List ℕ) (q : ℕ) → q ≤ length ws → packed (drop q ws) ≡ drop (32 * q) (packed ws)
packed-drop ws q h =
    let whole : packed ws ≡ packed (take q ws) ++ packed (drop q ws) = ap packed (sym (take-append-drop q ws)) ∙ packed-append (take q ws) (drop q ws) in
    sym (ap (λ l. drop (32 * q) l) whole
    ∙ ap (λ k. drop k (packed (take q ws) ++ packed (drop q ws))) (sym (length-front ws q h))
    ∙ drop-append_seam (packed (take q ws)) (packed (drop q ws)))

take-nothing : {A : Type 0} (n : ℕ) → take {A = A} n [] ≡ []
take-nothing zero = refl
take-nothing (suc n) = refl

-- the bits of a field that a part of the words holds
pub field-there : (ws : List ℕ) (place n width : ℕ) → place < 32 * length ws → width ≡ min n (32 * length ws - place) → slice (place % 32) width (packed (drop (place / 32) ws)) ≡ take n (drop place (packed ws))
field-there ws place n width inside e =
    let q : place / 32 ≤ length ws = omega arith in
    let whole : 32 * (place / 32) + place % 32 ≡ place = omega arith in
    let same : drop (place % 32) (packed (drop (place / 32) ws)) ≡ drop place (packed ws) =
    ap (λ l. drop (place % 32) l) (packed-drop ws (place / 32) q) ∙ drop-drop (place % 32) (32 * (place / 32)) (packed ws) ∙ ap (λ k. drop k (packed ws)) whole in
    let long : length (drop place (packed ws)) ≡ 32 * length ws - place = length-drop place (packed ws) ∙ ap (λ k. k - place) (length-packed ws) in
    let w : width ≡ min n (length (drop place (packed ws))) = e ∙ ap (λ k. min n k) (sym long) in
    ap (λ l. take width l) same ∙ ap (λ k. take k (drop place (packed ws))) w ∙ take_min n (drop place (packed ws))

number-empty : number [] ≡ 0
unfolding number
number-empty = refl

-- no bits
pub none-there : (ws : List ℕ) (place n : ℕ) → ((32 * length ws ≤ place) ⊎ (n ≡ 0)) → 0 ≡ number (take (min n 32) (drop place (packed ws)))
none-there ws place n h = elim h [
  | inl past ↦ (let l : length (packed ws) ≡ 32 * length ws = length-packed ws in sym (ap (λ k. number (take (min n 32) k)) (drop_all place (packed ws) (omega arith)) ∙ ap number (take-nothing (min n 32)) ∙ number-empty))
  | inr nothing ↦ (let m : min n 32 ≡ 0 = omega arith in sym (ap (λ k. number (take k (drop place (packed ws)))) m ∙ number-empty))
]

-- ---- writing

pub replaced-nothing : (place : ℕ) (bs : List ℕ) → replaced place [] bs ≡ bs
replaced-nothing place bs = let e : place + 0 ≡ place = omega arith in ap (λ l. l ++ drop (place + 0) bs) (append-nil (take place bs)) ∙ ap (λ k. take place bs ++ drop k bs) e ∙ take-append-drop place bs

front-long : (place : ℕ) (xs bs : List ℕ) → place + length xs ≤ length bs → length (take place bs ++ xs) ≡ place + length xs
front-long place xs bs h = length-append (take place bs) xs ∙ ap (λ k. k + length xs) (length-take-le place bs (omega arith))

-- behind what was written the bits are the old ones
pub drop-replaced : (place : ℕ) (xs bs : List ℕ) → place + length xs ≤ length bs → drop (place + length xs) (replaced place xs bs) ≡ drop (place + length xs) bs
drop-replaced place xs bs h = ap (λ k. drop k (replaced place xs bs)) (sym (front-long place xs bs h)) ∙ drop-append_seam (take place bs ++ xs) (drop (place + length xs) bs)

-- one list after another
pub replaced-more : (place : ℕ) (xs ys bs : List ℕ) → place + length xs ≤ length bs → replaced (place + length xs) ys (replaced place xs bs) ≡ replaced place (xs ++ ys) bs
replaced-more place xs ys bs h =
    let front : take (place + length xs) (replaced place xs bs) ≡ take place bs ++ xs = ap (λ k. take k (replaced place xs bs)) (sym (front-long place xs bs h)) ∙ take-append_seam (take place bs ++ xs) (drop (place + length xs) bs) in
    let behind : drop (place + length xs + length ys) (replaced place xs bs) ≡ drop (place + length (xs ++ ys)) bs =
    sym (drop-drop (length ys) (place + length xs) (replaced place xs bs)) ∙ ap (λ l. drop (length ys) l) (drop-replaced place xs bs h) ∙ drop-drop (length ys) (place + length xs) bs
    ∙ ap (λ k. drop k bs) (let e : place + length xs + length ys ≡ place + length (xs ++ ys) = omega (arith, length-append xs ys) in e) in
    ap (λ l. l ++ ys ++ drop (place + length xs + length ys) (replaced place xs bs)) front
    ∙ ap (λ l. take place bs ++ xs ++ ys ++ l) behind
    ∙ ap (λ l. l ++ drop (place + length (xs ++ ys)) bs) (append_assoc (take place bs) xs ys)

pub replicate-split : (m n : ℕ) → replicate {A = ℕ} (m + n) 0 ≡ replicate {A = ℕ} m 0 ++ replicate {A = ℕ} n 0
replicate-split zero n = let e : 0 + n ≡ n = omega arith in ap (λ k. replicate {A = ℕ} k 0) e
replicate-split (suc m) n = let e : suc m + n ≡ suc (m + n) = omega arith in ap (λ k. replicate {A = ℕ} k 0) e ∙ ap (λ l. 0 ∷ l) (replicate-split m n)

-- zeros over zeros
pub replaced-zeros : (place n : ℕ) (bs : List ℕ) → place + n ≤ length bs → IsBlankFrom place bs → replaced place (replicate n 0) bs ≡ bs
replaced-zeros place n bs h blank =
    let long : length (replicate {A = ℕ} n 0) ≡ n = length-replicate n 0 in
    let split : length bs - place ≡ n + (length bs - (place + n)) = omega arith in
    let rest : drop (place + n) bs ≡ replicate (length bs - (place + n)) 0 =
    sym (drop-drop n place bs) ∙ ap (λ l. drop n l) (blank ∙ ap (λ k. replicate k 0) split ∙ replicate-split n (length bs - (place + n)))
    ∙ ap (λ k. drop k (replicate n 0 ++ replicate (length bs - (place + n)) 0)) (sym long) ∙ drop-append_seam (replicate n 0) (replicate (length bs - (place + n)) 0) in
    ap (λ k. take place bs ++ replicate n 0 ++ drop (place + k) bs) long
    ∙ ap (λ l. take place bs ++ replicate n 0 ++ l) rest
    ∙ append_assoc (take place bs) (replicate n 0) (replicate (length bs - (place + n)) 0)
    ∙ ap (λ l. take place bs ++ l) (sym (replicate-split n (length bs - (place + n))) ∙ ap (λ k. replicate k 0) (sym split) ∙ sym blank)
    ∙ take-append-drop place bs

-- what is after a writing is still blank
pub blank-behind : (place : ℕ) (xs bs : List ℕ) → place + length xs ≤ length bs → IsBlankFrom place bs → IsBlankFrom (place + length xs) (replaced place xs bs)
blank-behind place xs bs h blank =
    drop-replaced place xs bs h ∙ sym (drop-drop (length xs) place bs) ∙ ap (λ l. drop (length xs) l) blank ∙ drop-replicate (length xs) (length bs - place) 0
    ∙ ap (λ k. replicate k 0) (let e : length bs - place - length xs ≡ length (replaced place xs bs) - (place + length xs) = omega (arith, length-replaced place xs bs h) in e)

-- ---- the words of some bits
pub number-word : (w : ℕ) → w < 2 ^ 32 → number (bits 32 w) ≡ w
number-word w h = number-bits 32 w ∙ (let e : w % 2 ^ 32 ≡ w = omega arith in e)
