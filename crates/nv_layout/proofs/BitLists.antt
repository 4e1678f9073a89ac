-- Lemmas on lists of bits.
use Rattle.std.proofs.Common.{◌≡◌, ℕ, zero, suc, ◌+◌, ◌-◌, ◌*◌, ◌/◌, ◌%◌, ◌^◌, ◌<◌, ◌≤◌, List, [], ◌∷◌, ◌++◌, length, take, drop, get_or, set, ◌≢◌, inl, inr, refl, sym, ap, ◌∙◌, append_assoc, append-nil, zero-add, add_comm, add-one, add-suc, add-zero, arith, length-append, length-drop}
use Rattle.std.proofs.Math.Seq.{take-length, drop-length, drop-cons, take-append_seam, take-append-add, drop-append-add, split_at}
use Rattle.std.proofs.lemmas.List.{take-append-le, drop-append-le, length-take-le, take-set, take-set-le, drop-set-lt, get_or-set_same, get_or-set_other, length-set, get_or_past}
use Rattle.std.proofs.lemmas.Bool.{cases_lt}
use Rattle.std.proofs.lemmas.Nat.{shr-shr, pow_pos, pow-add, div-mul-add, shr_split, mod-pow-add, mod_below}
use Rattle.nv_ast.specs.Bits.{bits, number, packed, slice, replaced}

pub length-bits : (k x : ℕ) → length (bits k x) ≡ k
unfolding bits
length-bits zero x = refl
length-bits (suc k) x = rw (length-append, length-bits k (x / 2)) (omega arith)

halves : (x b : ℕ) → x / 2 / 2 ^ b ≡ x / 2 ^ suc b
halves x b = shr-shr x 1 b ∙ ap (λ k. x / 2 ^ k) (let e : 1 + b ≡ suc b = omega arith in e)

pub bits-split : (a b x : ℕ) → bits (a + b) x ≡ bits a (x / 2 ^ b) ++ bits b x
unfolding bits
bits-split a zero x = let e : x / 1 ≡ x = omega arith in rw (add-zero, e, append-nil) refl
bits-split a (suc b) x = rw (add-suc, bits-split a b (x / 2), halves x b, append_assoc) refl

number_step : (x n m l i j : ℕ) → l ≡ i + j → x * 2 ^ l + (n * 2 ^ j + m) ≡ (x * 2 ^ i + n) * 2 ^ j + m
number_step x n m l i j e = rw (e, pow-add) (omega arith)

pub number-append : (xs ys : List ℕ) → number (xs ++ ys) ≡ number xs * 2 ^ length ys + number ys
unfolding number
number-append [] ys = omega arith
number-append (x ∷ xs) ys = rw (number-append xs ys) (number_step x (number xs) (number ys) _ _ _ (length-append xs ys))

low_step : (k x : ℕ) → (x / 2) % 2 ^ k * 2 + x % 2 ≡ x % 2 ^ suc k
low_step k x = sym (ap (λ j. x % 2 ^ j) (let e : suc k ≡ k + 1 = omega arith in e) ∙ mod-pow-add x k 1)

pub number-bits : (k x : ℕ) → number (bits k x) ≡ x % 2 ^ k
unfolding bits number
number-bits zero x = omega arith
number-bits (suc k) x = rw (number-append, number-bits k (x / 2)) (omega (arith, low_step k x))

twice : (a k : ℕ) → a * 2 ^ suc k ≡ 2 * (a * 2 ^ k)
twice a k = grind arith

-- bits above the k lowest don't matter
pub bits-low : (k a x : ℕ) → bits k (a * 2 ^ k + x) ≡ bits k x
unfolding bits
bits-low zero a x = refl
bits-low (suc k) a x =
    let e : (a * 2 ^ suc k + x) / 2 ≡ a * 2 ^ k + x / 2 = omega (arith, twice a k) in
    let f : (a * 2 ^ suc k + x) % 2 ≡ x % 2 = omega (arith, twice a k) in
    rw (e, f, bits-low k a (x / 2)) refl

-- ---- one window of two words
pub packed-append : (xs ys : List ℕ) → packed (xs ++ ys) ≡ packed xs ++ packed ys
unfolding packed
packed-append [] ys = refl
packed-append (x ∷ xs) ys = rw (packed-append xs ys, append_assoc) refl

pub length-packed : (xs : List ℕ) → length (packed xs) ≡ 32 * length xs
unfolding packed
length-packed [] = refl
length-packed (x ∷ xs) = length-append (bits 32 x) (packed xs) ∙ omega (arith, length-bits 32 x, length-packed xs)

pub packed-one : (w : ℕ) → packed (w ∷ []) ≡ bits 32 w
unfolding packed
packed-one w = append-nil (bits 32 w)

pub packed-cons : (w : ℕ) (ws : List ℕ) → packed (w ∷ ws) ≡ bits 32 w ++ packed ws
unfolding packed
packed-cons w ws = refl

-- two words as one number of 64 bits
pub bits-two : (a b : ℕ) → b < 2 ^ 32 → bits 64 (a * 2 ^ 32 + b) ≡ bits 32 a ++ bits 32 b
bits-two a b h =
    let e : (a * 2 ^ 32 + b) / 2 ^ 32 ≡ a = div-mul-add a (2 ^ 32) b h in
    rw (bits-split 32 32 (a * 2 ^ 32 + b), e, bits-low 32 a b) refl

-- a slice that lies in the middle part
pub slice-middle : (p w r : List ℕ) (i s n : ℕ) → i ≡ length p + s → s + n ≤ length w → slice i n (p ++ (w ++ r)) ≡ slice s n w
slice-middle p w r i s n e h =
    let d : drop s (w ++ r) ≡ drop s w ++ r = drop-append-le s w r (omega arith) in
    let l : n ≤ length (drop s w) = omega (arith, length-drop s w) in
    rw (e, drop-append-add p (w ++ r) s, d, take-append-le n (drop s w) r l) refl

pub replaced-middle : (p w r new : List ℕ) (i s : ℕ) → i ≡ length p + s → s + length new ≤ length w → replaced i new (p ++ (w ++ r)) ≡ p ++ (replaced s new w ++ r)
replaced-middle p w r new i s e h =
    let d : drop (s + length new) (w ++ r) ≡ drop (s + length new) w ++ r = drop-append-le (s + length new) w r h in
    let t : take s (w ++ r) ≡ take s w = take-append-le s w r (omega arith) in
    let a : length p + s + length new ≡ length p + (s + length new) = omega arith in
    rw (e, a, drop-append-add p (w ++ r) (s + length new), take-append-add p (w ++ r) s, d, t) (simp append_assoc)

whole : (w : List ℕ) (n : ℕ) → length w ≡ n → slice 0 n w ≡ w
whole w n e = rw (← e) (take-length w)

all_new : (new w : List ℕ) → length new ≡ length w → replaced 0 new w ≡ new
all_new new w e =
    let d : drop (0 + length new) w ≡ [] = rw (e, zero-add) (drop-length w) in
    ap (λ l. new ++ l) d ∙ append-nil new

-- the n bits above the r lowest
pub slice-bits : (s n r x : ℕ) → slice s n (bits (s + (n + r)) x) ≡ bits n (x / 2 ^ r)
slice-bits s n r x =
    let p : List ℕ = bits s (x / 2 ^ (n + r)) in
    let w : List ℕ = bits n (x / 2 ^ r) in
    let lp : length p ≡ s = length-bits s (x / 2 ^ (n + r)) in
    let lw : length w ≡ n = length-bits n (x / 2 ^ r) in
    let e : s ≡ length p + 0 = omega arith in
    let m : slice s n (p ++ (w ++ bits r x)) ≡ slice 0 n w = slice-middle p w (bits r x) s 0 n e (omega arith) in
    ap (λ l. slice s n l) (bits-split s (n + r) x ∙ ap (λ l. p ++ l) (bits-split n r x)) ∙ m ∙ whole w n lw

bits-mod : (k x : ℕ) → bits k (x % 2 ^ k) ≡ bits k x
bits-mod k x = sym (bits-low k (x / 2 ^ k) (x % 2 ^ k)) ∙ ap (bits k) (shr_split x k)

cut : (s n r a v x : ℕ) → bits (s + (n + r)) ((a * 2 ^ n + v % 2 ^ n) * 2 ^ r + x % 2 ^ r) ≡ bits s a ++ (bits n v ++ bits r x)
cut s n r a v x =
    let y : ℕ = a * 2 ^ n + v % 2 ^ n in
    let z : ℕ = y * 2 ^ r + x % 2 ^ r in
    let zr : z / 2 ^ r ≡ y = div-mul-add y (2 ^ r) (x % 2 ^ r) (mod_below x (2 ^ r) (pow_pos r)) in
    let yn : y / 2 ^ n ≡ a = div-mul-add a (2 ^ n) (v % 2 ^ n) (mod_below v (2 ^ n) (pow_pos n)) in
    let low : bits r z ≡ bits r x = bits-low r y (x % 2 ^ r) ∙ bits-mod r x in
    let mid : bits n y ≡ bits n v = bits-low n a (v % 2 ^ n) ∙ bits-mod n v in
    let top : z / 2 ^ (n + r) ≡ a = ap (λ k. z / 2 ^ k) (add_comm n r) ∙ sym (shr-shr z r n) ∙ ap (λ k. k / 2 ^ n) zr ∙ yn in
    bits-split s (n + r) z ∙ ap (λ k. bits s k ++ bits (n + r) z) top ∙ ap (λ l. bits s a ++ l) (bits-split n r z ∙ ap (λ k. bits n k ++ bits r z) zr ∙ ap (λ l. l ++ bits r z) mid ∙ ap (λ l. bits n v ++ l) low)

pub replaced-bits : (s n r x v : ℕ) → replaced s (bits n v) (bits (s + (n + r)) x) ≡ bits (s + (n + r)) ((x / 2 ^ (r + n) * 2 ^ n + v % 2 ^ n) * 2 ^ r + x % 2 ^ r)
replaced-bits s n r x v =
    let p : List ℕ = bits s (x / 2 ^ (n + r)) in
    let w : List ℕ = bits n (x / 2 ^ r) in
    let new : List ℕ = bits n v in
    let lp : length p ≡ s = length-bits s (x / 2 ^ (n + r)) in
    let lw : length w ≡ n = length-bits n (x / 2 ^ r) in
    let ln : length new ≡ n = length-bits n v in
    let e : s ≡ length p + 0 = omega arith in
    let m : replaced s new (p ++ (w ++ bits r x)) ≡ p ++ (replaced 0 new w ++ bits r x) = replaced-middle p w (bits r x) new s 0 e (omega arith) in
    ap (λ l. replaced s new l) (bits-split s (n + r) x ∙ ap (λ l. p ++ l) (bits-split n r x))
    ∙ m
    ∙ ap (λ l. p ++ (l ++ bits r x)) (all_new new w (ln ∙ sym lw))
    ∙ ap (λ k. bits s (x / 2 ^ k) ++ (new ++ bits r x)) (add_comm n r)
    ∙ sym (cut s n r (x / 2 ^ (r + n)) v x)

-- ---- the window in the words
pub two_at : (ws : List ℕ) (q : ℕ) → suc q < length ws → packed ws ≡ packed (take q ws) ++ ((bits 32 (get_or ws q 0) ++ bits 32 (get_or ws (suc q) 0)) ++ packed (drop (suc (suc q)) ws))
two_at ws q h =
    let w : ℕ = get_or ws q 0 in
    let v : ℕ = get_or ws (suc q) 0 in
    let r : List ℕ = drop (suc (suc q)) ws in
    let d : drop (suc q) ws ≡ v ∷ r = drop-cons ws (suc q) 0 h in
    let cutting : ws ≡ take q ws ++ (w ∷ v ∷ r) = split_at ws q 0 (omega arith) ∙ ap (λ l. take q ws ++ (w ∷ l)) d in
    let right : packed (w ∷ v ∷ r) ≡ (bits 32 w ++ bits 32 v) ++ packed r = packed-cons w (v ∷ r) ∙ ap (λ l. bits 32 w ++ l) (packed-cons v r) ∙ sym (append_assoc (bits 32 w) (bits 32 v) (packed r)) in
    ap packed cutting ∙ packed-append (take q ws) (w ∷ v ∷ r) ∙ ap (λ l. packed (take q ws) ++ l) right

pub one_at : (ws : List ℕ) (q : ℕ) → suc q ≡ length ws → packed ws ≡ packed (take q ws) ++ (bits 32 (get_or ws q 0) ++ [])
one_at ws q e =
    let w : ℕ = get_or ws q 0 in
    let d : drop (suc q) ws ≡ [] = rw e (drop-length ws) in
    let cutting : ws ≡ take q ws ++ (w ∷ []) = split_at ws q 0 (omega arith) ∙ ap (λ l. take q ws ++ (w ∷ l)) d in
    ap packed cutting ∙ packed-append (take q ws) (w ∷ []) ∙ ap (λ l. packed (take q ws) ++ l) (packed-one w ∙ sym (append-nil (bits 32 w)))

pub length-front : (ws : List ℕ) (q : ℕ) → q ≤ length ws → length (packed (take q ws)) ≡ 32 * q
length-front ws q h = length-packed (take q ws) ∙ ap (λ k. 32 * k) (length-take-le q ws h)

pub window-slice : (ws : List ℕ) (first n : ℕ) → ((i : ℕ) → get_or ws i 0 < 2 ^ 32) → 1 ≤ n → n ≤ 32 → first + n ≤ 32 * length ws →
    slice first n (packed ws) ≡ slice (first % 32) n (bits 64 (get_or ws (first / 32) 0 * 2 ^ 32 + get_or ws (first / 32 + 1) 0))
window-slice ws first n fits some word inside =
    let q : ℕ = first / 32 in
    let s : ℕ = first % 32 in
    let w : ℕ = get_or ws q 0 in
    let v : ℕ = get_or ws (q + 1) 0 in
    let p : List ℕ = packed (take q ws) in
    let lp : length p ≡ 32 * q = length-front ws q (omega arith) in
    let lw : length (bits 32 w) ≡ 32 = length-bits 32 w in
    let lv : length (bits 32 v) ≡ 32 = length-bits 32 v in
    let lb : length (bits 32 w ++ bits 32 v) ≡ 64 = length-append (bits 32 w) (bits 32 v) ∙ omega arith in
    let two : bits 64 (w * 2 ^ 32 + v) ≡ bits 32 w ++ bits 32 v = bits-two w v (fits (q + 1)) in
    elim (cases_lt (suc q) (length ws)) [
      | inl h ↦
          let t : packed ws ≡ p ++ ((bits 32 w ++ bits 32 v) ++ packed (drop (suc (suc q)) ws)) = two_at ws q h ∙ ap (λ k. p ++ ((bits 32 w ++ bits 32 (get_or ws k 0)) ++ packed (drop (suc (suc q)) ws))) (sym (add-one q)) in
          ap (slice first n) t ∙ slice-middle p (bits 32 w ++ bits 32 v) (packed (drop (suc (suc q)) ws)) first s n (omega arith) (omega arith) ∙ sym (ap (slice s n) two)
      | inr h ↦
          let t : packed ws ≡ p ++ (bits 32 w ++ []) = one_at ws q (omega arith) in
          ap (slice first n) t ∙ slice-middle p (bits 32 w) [] first s n (omega arith) (omega arith)
          ∙ sym (ap (slice s n) two ∙ slice-middle [] (bits 32 w) (bits 32 v) s s n (omega arith) (omega arith))
    ]

pub window-number : (ws : List ℕ) (first n : ℕ) → ((i : ℕ) → get_or ws i 0 < 2 ^ 32) → 1 ≤ n → n ≤ 32 → first + n ≤ 32 * length ws →
    number (slice first n (packed ws)) ≡ (get_or ws (first / 32) 0 * 2 ^ 32 + get_or ws (first / 32 + 1) 0) / 2 ^ (64 - first % 32 - n) % 2 ^ n
window-number ws first n fits some word inside =
    let s : ℕ = first % 32 in
    let r : ℕ = 64 - s - n in
    let x : ℕ = get_or ws (first / 32) 0 * 2 ^ 32 + get_or ws (first / 32 + 1) 0 in
    let e : 64 ≡ s + (n + r) = omega arith in
    ap number (window-slice ws first n fits some word inside ∙ ap (λ k. slice s n (bits k x)) e ∙ slice-bits s n r x) ∙ number-bits n (x / 2 ^ r)

-- ---- writing the window back
-- the field's bits put into the window x
abbrev pub put : ℕ → ℕ → ℕ → ℕ → ℕ
put x r n v = (x / 2 ^ (r + n) * 2 ^ n + v % 2 ^ n) * 2 ^ r + x % 2 ^ r

pub written-two : (ws : List ℕ) (first n v y : ℕ) → get_or ws (first / 32 + 1) 0 < 2 ^ 32 → 1 ≤ n → n ≤ 32 → first + n ≤ 32 * length ws → first / 32 + 1 < length ws →
    y ≡ put (get_or ws (first / 32) 0 * 2 ^ 32 + get_or ws (first / 32 + 1) 0) (64 - first % 32 - n) n v →
    packed (set (set ws (first / 32) (y / 2 ^ 32)) (first / 32 + 1) (y % 2 ^ 32)) ≡ replaced first (bits n v) (packed ws)
written-two ws first n v y fits some word inside more is =
    let q : ℕ = first / 32 in
    let s : ℕ = first % 32 in
    let r : ℕ = 64 - s - n in
    let a : ℕ = get_or ws q 0 in
    let b : ℕ = get_or ws (q + 1) 0 in
    let p : List ℕ = packed (take q ws) in
    let rest : List ℕ = packed (drop (suc (suc q)) ws) in
    let ws' : List ℕ = set (set ws q (y / 2 ^ 32)) (q + 1) (y % 2 ^ 32) in
    let lp : length p ≡ 32 * q = length-front ws q (omega arith) in
    let l64 : length (bits 64 (a * 2 ^ 32 + b)) ≡ 64 = length-bits 64 (a * 2 ^ 32 + b) in
    let ln : length (bits n v) ≡ n = length-bits n v in
    let e : 64 ≡ s + (n + r) = omega arith in
    let old : packed ws ≡ p ++ (bits 64 (a * 2 ^ 32 + b) ++ rest) =
    two_at ws q (omega arith) ∙ ap (λ k. p ++ ((bits 32 a ++ bits 32 (get_or ws k 0)) ++ rest)) (sym (add-one q)) ∙ ap (λ l. p ++ (l ++ rest)) (sym (bits-two a b fits)) in
    let swap : replaced s (bits n v) (bits 64 (a * 2 ^ 32 + b)) ≡ bits 64 y =
    ap (λ k. replaced s (bits n v) (bits k (a * 2 ^ 32 + b))) e ∙ replaced-bits s n r (a * 2 ^ 32 + b) v ∙ ap (λ k. bits k (put (a * 2 ^ 32 + b) r n v)) (sym e) ∙ ap (bits 64) (sym is) in
    let right : replaced first (bits n v) (packed ws) ≡ p ++ (bits 64 y ++ rest) =
    ap (replaced first (bits n v)) old ∙ replaced-middle p (bits 64 (a * 2 ^ 32 + b)) rest (bits n v) first s (omega arith) (omega arith) ∙ ap (λ l. p ++ (l ++ rest)) swap in
    let lw : length ws' ≡ length ws = length-set (set ws q (y / 2 ^ 32)) (q + 1) (y % 2 ^ 32) ∙ length-set ws q (y / 2 ^ 32) in
    let l1 : length (set ws q (y / 2 ^ 32)) ≡ length ws = length-set ws q (y / 2 ^ 32) in
    let apart : q ≢ q + 1 = omega arith in
    let front : take q ws' ≡ take q ws = take-set-le q (set ws q (y / 2 ^ 32)) (q + 1) (y % 2 ^ 32) (omega arith) ∙ take-set ws q (y / 2 ^ 32) in
    let back : drop (suc (suc q)) ws' ≡ drop (suc (suc q)) ws = drop-set-lt (suc (suc q)) (set ws q (y / 2 ^ 32)) (q + 1) (y % 2 ^ 32) (omega arith) ∙ drop-set-lt (suc (suc q)) ws q (y / 2 ^ 32) (omega arith) in
    let ga : get_or ws' q 0 ≡ y / 2 ^ 32 = get_or-set_other (set ws q (y / 2 ^ 32)) (q + 1) q (y % 2 ^ 32) 0 apart ∙ get_or-set_same ws q (y / 2 ^ 32) 0 (omega arith) in
    let gb : get_or ws' (suc q) 0 ≡ y % 2 ^ 32 = ap (λ k. get_or ws' k 0) (sym (add-one q)) ∙ get_or-set_same (set ws q (y / 2 ^ 32)) (q + 1) (y % 2 ^ 32) 0 (omega arith) in
    let halves : bits 64 y ≡ bits 32 (y / 2 ^ 32) ++ bits 32 (y % 2 ^ 32) = bits-split 32 32 y ∙ ap (λ l. bits 32 (y / 2 ^ 32) ++ l) (sym (bits-mod 32 y)) in
    let left : packed ws' ≡ p ++ (bits 64 y ++ rest) =
    two_at ws' q (omega arith) ∙ ap (λ l. packed l ++ ((bits 32 (get_or ws' q 0) ++ bits 32 (get_or ws' (suc q) 0)) ++ packed (drop (suc (suc q)) ws'))) front
    ∙ ap (λ l. p ++ ((bits 32 (get_or ws' q 0) ++ bits 32 (get_or ws' (suc q) 0)) ++ packed l)) back
    ∙ ap (λ k. p ++ ((bits 32 k ++ bits 32 (get_or ws' (suc q) 0)) ++ rest)) ga
    ∙ ap (λ k. p ++ ((bits 32 (y / 2 ^ 32) ++ bits 32 k) ++ rest)) gb
    ∙ ap (λ l. p ++ (l ++ rest)) (sym halves) in
    left ∙ sym right

front_same : (l b m c : List ℕ) → length l ≡ length m → l ++ b ≡ m ++ c → l ≡ m
front_same l b m c e h = sym (take-append_seam l b) ∙ ap (take (length l)) h ∙ ap (λ k. take k (m ++ c)) e ∙ take-append_seam m c

pub length-replaced : (s : ℕ) (new w : List ℕ) → s + length new ≤ length w → length (replaced s new w) ≡ length w
length-replaced s new w h =
    length-append (take s w ++ new) (drop (s + length new) w) ∙ omega (arith, length-append (take s w) new, length-take-le s w (omega arith), length-drop (s + length new) w)

pub written-one : (ws : List ℕ) (first n v y : ℕ) → 1 ≤ n → n ≤ 32 → first + n ≤ 32 * length ws → first / 32 + 1 ≡ length ws →
    y ≡ put (get_or ws (first / 32) 0 * 2 ^ 32 + get_or ws (first / 32 + 1) 0) (64 - first % 32 - n) n v →
    packed (set ws (first / 32) (y / 2 ^ 32)) ≡ replaced first (bits n v) (packed ws)
written-one ws first n v y some word inside last is =
    let q : ℕ = first / 32 in
    let s : ℕ = first % 32 in
    let r : ℕ = 64 - s - n in
    let a : ℕ = get_or ws q 0 in
    let b : ℕ = get_or ws (q + 1) 0 in
    let p : List ℕ = packed (take q ws) in
    let ws' : List ℕ = set ws q (y / 2 ^ 32) in
    let new : List ℕ = bits n v in
    let lp : length p ≡ 32 * q = length-front ws q (omega arith) in
    let la : length (bits 32 a) ≡ 32 = length-bits 32 a in
    let ly : length (bits 32 (y / 2 ^ 32)) ≡ 32 = length-bits 32 (y / 2 ^ 32) in
    let ln : length new ≡ n = length-bits n v in
    let e : 64 ≡ s + (n + r) = omega arith in
    let z : b ≡ 0 = get_or_past ws (q + 1) 0 (omega arith) in
    let bz : b < 2 ^ 32 = omega arith in
    let old : packed ws ≡ p ++ (bits 32 a ++ []) = one_at ws q (omega arith) in
    let swap : replaced s new (bits 64 (a * 2 ^ 32 + b)) ≡ bits 64 y =
    ap (λ k. replaced s new (bits k (a * 2 ^ 32 + b))) e ∙ replaced-bits s n r (a * 2 ^ 32 + b) v ∙ ap (λ k. bits k (put (a * 2 ^ 32 + b) r n v)) (sym e) ∙ ap (bits 64) (sym is) in
    let both : replaced s new (bits 32 a) ++ bits 32 b ≡ bits 32 (y / 2 ^ 32) ++ bits 32 y =
    sym (replaced-middle [] (bits 32 a) (bits 32 b) new s s (omega arith) (omega arith)) ∙ sym (ap (replaced s new) (bits-two a b bz)) ∙ swap ∙ bits-split 32 32 y in
    let one : replaced s new (bits 32 a) ≡ bits 32 (y / 2 ^ 32) =
    front_same (replaced s new (bits 32 a)) (bits 32 b) (bits 32 (y / 2 ^ 32)) (bits 32 y) (length-replaced s new (bits 32 a) (omega arith) ∙ omega arith) both in
    let right : replaced first new (packed ws) ≡ p ++ (bits 32 (y / 2 ^ 32) ++ []) =
    ap (replaced first new) old ∙ replaced-middle p (bits 32 a) [] new first s (omega arith) (omega arith) ∙ ap (λ l. p ++ (l ++ [])) one in
    let l1 : length ws' ≡ length ws = length-set ws q (y / 2 ^ 32) in
    let left : packed ws' ≡ p ++ (bits 32 (y / 2 ^ 32) ++ []) =
    one_at ws' q (omega arith) ∙ ap (λ l. packed l ++ (bits 32 (get_or ws' q 0) ++ [])) (take-set ws q (y / 2 ^ 32))
    ∙ ap (λ k. p ++ (bits 32 k ++ [])) (get_or-set_same ws q (y / 2 ^ 32) 0 (omega arith)) in
    left ∙ sym right
