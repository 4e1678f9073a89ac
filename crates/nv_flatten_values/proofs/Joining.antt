-- The words that shifts join.
use Rattle.std.proofs.Common.{◌≡◌, ◌∙◌, refl, ap, sym, subst, ℕ, zero, suc, ◌+◌, ◌-◌, ◌*◌, ◌/◌, ◌%◌, ◌^◌, ◌<◌, ◌≤◌, ◌≢◌, List, ◌∷◌, ◌++◌, take, drop, length, get_or, set, replicate, arith, bit_or, length-set}
use Rattle.std.specs.Int.Bits.{or_zero_l}
use Rattle.std.proofs.Math.Seq.{split_at}
use Rattle.std.proofs.lemmas.List.{take-replicate, drop-replicate, drop-drop, take-set, drop-set-lt, get_or-set_same, get_or-set_other}
use Rattle.std.proofs.lemmas.Nat.{shr-shr, shl-shr, shr_split, field_of, or_shifted, pow_pos, pow-add, shl_below, mod_below}
use Rattle.nv_base.specs.Words.{shifted_left, shifted_right}
use Rattle.nv_ast.specs.Bits.{bits, number, packed, slice, replaced}
use Rattle.nv_layout.proofs.BitLists.{length-bits, bits-split, number-bits, packed-append, packed-cons, length-packed, length-front, slice-bits, replaced-middle, replaced-bits}
use Rattle.nv_meaning.specs.inner.Blanks.{IsBlankFrom}
use Rattle.nv_meaning.proofs.Packed.{replaced-more}
use Rattle.nv_flatten_values.proofs.Cutting.{no-rest, raised-low, raised-again, small-number, one-cut}

-- ---- one word of a list
packed-split : (ws : List ℕ) (q : ℕ) → q < length ws → packed ws ≡ packed (take q ws) ++ (bits 32 (get_or ws q 0) ++ packed (drop (suc q) ws))
packed-split ws q h = ap packed (split_at ws q 0 h) ∙ packed-append (take q ws) (get_or ws q 0 ∷ drop (suc q) ws) ∙ ap (λ l. packed (take q ws) ++ l) (packed-cons (get_or ws q 0) (drop (suc q) ws))

packed-set : (ws : List ℕ) (q y : ℕ) → q < length ws → packed (set ws q y) ≡ packed (take q ws) ++ (bits 32 y ++ packed (drop (suc q) ws))
packed-set ws q y h =
    let l : length (set ws q y) ≡ length ws = length-set ws q y in
    packed-split (set ws q y) q (omega arith)
    ∙ ap (λ k. packed k ++ (bits 32 (get_or (set ws q y) q 0) ++ packed (drop (suc q) (set ws q y)))) (take-set ws q y)
    ∙ ap (λ k. packed (take q ws) ++ (bits 32 k ++ packed (drop (suc q) (set ws q y)))) (get_or-set_same ws q y 0 h)
    ∙ ap (λ k. packed (take q ws) ++ (bits 32 y ++ packed k)) (drop-set-lt (suc q) ws q y (omega arith))

word-replaced : (ws new : List ℕ) (at q s y : ℕ) → q < length ws → at ≡ 32 * q + s → s + length new ≤ 32 → bits 32 y ≡ replaced s new (bits 32 (get_or ws q 0)) → packed (set ws q y) ≡ replaced at new (packed ws)
word-replaced ws new at q s y h place fits e =
    let p : List ℕ = packed (take q ws) in
    let w : List ℕ = bits 32 (get_or ws q 0) in
    let r : List ℕ = packed (drop (suc q) ws) in
    let lp : length p ≡ 32 * q = length-front ws q (omega arith) in
    let lw : length w ≡ 32 = length-bits 32 (get_or ws q 0) in
    packed-set ws q y h ∙ ap (λ l. p ++ (l ++ r)) e
    ∙ sym (ap (replaced at new) (packed-split ws q h) ∙ replaced-middle p w r new at s (omega arith) (omega arith))

-- ---- where all bits are 0
blank-later : (at more' : ℕ) (bs : List ℕ) → IsBlankFrom at bs → IsBlankFrom (at + more') bs
blank-later at more' bs blank =
    sym (drop-drop more' at bs) ∙ ap (λ l. drop more' l) blank ∙ drop-replicate more' (length bs - at) 0 ∙ ap (λ k. replicate k 0) (let e : length bs - at - more' ≡ length bs - (at + more') = omega arith in e)

blank-slice : (at n : ℕ) (bs : List ℕ) → IsBlankFrom at bs → at + n ≤ length bs → slice at n bs ≡ replicate n 0
blank-slice at n bs blank h = ap (λ l. take n l) blank ∙ take-replicate n (length bs - at) 0 (omega arith)

number-zeros : (n : ℕ) → number (replicate n 0) ≡ 0
unfolding number
number-zeros zero = refl
number-zeros (suc n) = let e : 0 * 2 ^ length (replicate {A = ℕ} n 0) + number (replicate n 0) ≡ number (replicate n 0) = omega arith in e ∙ number-zeros n

blank-low : (ws : List ℕ) (at q s : ℕ) → q ≡ at / 32 → s ≡ at % 32 → q < length ws → IsBlankFrom at (packed ws) → get_or ws q 0 % 2 ^ (32 - s) ≡ 0
blank-low ws at q s e f h blank =
    let w : ℕ = get_or ws q 0 in
    let k : ℕ = 32 - s in
    let lp : length (packed ws) ≡ 32 * length ws = length-packed ws in
    let g : 32 ≡ s + (k + 0) = omega arith in
    let u : w / 2 ^ 0 ≡ w = omega arith in
    let cut : slice at k (packed ws) ≡ bits k w =
    one-cut ws at k q s e f (omega arith) h ∙ ap (λ j. slice s k (bits j w)) g ∙ slice-bits s k 0 w ∙ ap (bits k) u in
    sym (number-bits k w) ∙ ap number (sym cut ∙ blank-slice at k (packed ws) blank (omega arith)) ∙ number-zeros k

blank-next : (ws : List ℕ) (at q : ℕ) → at ≤ 32 * q → q < length ws → get_or ws q 0 < 2 ^ 32 → IsBlankFrom at (packed ws) → get_or ws q 0 ≡ 0
blank-next ws at q before h small blank =
    let e : at + (32 * q - at) ≡ 32 * q = omega arith in
    let b : IsBlankFrom (32 * q) (packed ws) = subst (λ k. IsBlankFrom k (packed ws)) e (blank-later at (32 * q - at) (packed ws) blank) in
    let z : get_or ws q 0 % 2 ^ 32 ≡ 0 = blank-low ws (32 * q) q 0 (omega arith) (omega arith) h b in
    omega arith

-- ---- a field joined into a word
blank-sum : (w m n r : ℕ) → w % 2 ^ (r + n) ≡ 0 → w + m * 2 ^ r ≡ (w / 2 ^ (r + n) * 2 ^ n + m) * 2 ^ r + w % 2 ^ r
blank-sum w m n r z =
    let a : ℕ = w / 2 ^ (r + n) in
    let whole : w ≡ (a * 2 ^ n) * 2 ^ r =
    sym (shr_split w (r + n)) ∙ ap (λ k. a * 2 ^ (r + n) + k) z ∙ ap (λ k. a * k + 0) (pow-add 2 r n) ∙ (let e : a * (2 ^ r * 2 ^ n) + 0 ≡ (a * 2 ^ n) * 2 ^ r = omega arith in e) in
    let rest : w % 2 ^ r ≡ 0 = ap (λ k. k % 2 ^ r) whole ∙ no-rest (a * 2 ^ n) r in
    ap (λ k. k + m * 2 ^ r) whole ∙ (let e : (a * 2 ^ n) * 2 ^ r + m * 2 ^ r ≡ (a * 2 ^ n + m) * 2 ^ r + 0 = omega arith in e) ∙ ap (λ k. (a * 2 ^ n + m) * 2 ^ r + k) (sym rest)

join : (w v s n r x : ℕ) → 32 ≡ s + (n + r) → w % 2 ^ (r + n) ≡ 0 → x ≡ (v % 2 ^ n) * 2 ^ r → bits 32 (bit_or w x) ≡ replaced s (bits n v) (bits 32 w)
join w v s n r x e z is =
    let a : ℕ = w / 2 ^ (r + n) in
    let whole : w ≡ a * 2 ^ (r + n) = (let split : a * 2 ^ (r + n) + w % 2 ^ (r + n) ≡ w = shr_split w (r + n) in omega arith) in
    let low : v % 2 ^ n < 2 ^ n = mod_below v (2 ^ n) (pow_pos n) in
    let f : n + r ≡ r + n = omega arith in
    let below : x < 2 ^ (r + n) = subst (λ k. k < 2 ^ (r + n)) (sym is) (subst (λ k. (v % 2 ^ n) * 2 ^ r < 2 ^ k) f (shl_below (v % 2 ^ n) n r low)) in
    let sum : bit_or w x ≡ w + (v % 2 ^ n) * 2 ^ r =
    ap (λ k. bit_or k x) whole ∙ or_shifted a (r + n) x below ∙ ap (λ k. k + x) (sym whole) ∙ ap (λ k. w + k) is in
    ap (bits 32) (sum ∙ blank-sum w (v % 2 ^ n) n r z)
    ∙ ap (λ k. bits k ((w / 2 ^ (r + n) * 2 ^ n + v % 2 ^ n) * 2 ^ r + w % 2 ^ r)) e
    ∙ sym (ap (λ k. replaced s (bits n v) (bits k w)) e ∙ replaced-bits s n r w v)

raised : (v n : ℕ) → n ≤ 32 → shifted_left (32 - n) v ≡ (v % 2 ^ n) * 2 ^ (32 - n)
raised v n h = let e : 32 ≡ n + (32 - n) = omega arith in ap (λ k. (v * 2 ^ (32 - n)) % 2 ^ k) e ∙ raised-low v n (32 - n)

-- ---- within a word
pub one-joined : (ws : List ℕ) (v at n q s : ℕ) → q ≡ at / 32 → s ≡ at % 32 → s + n ≤ 32 → q < length ws → IsBlankFrom at (packed ws)
    → packed (set ws q (bit_or (get_or ws q 0) (shifted_right s (shifted_left (32 - n) v)))) ≡ replaced at (bits n v) (packed ws)
one-joined ws v at n q s e f few h blank =
    let r : ℕ = 32 - s - n in
    let ln : length (bits n v) ≡ n = length-bits n v in
    let d : 32 - n ≡ r + s = omega arith in
    let g : 32 - s ≡ r + n = omega arith in
    let z : get_or ws q 0 % 2 ^ (r + n) ≡ 0 = subst (λ k. get_or ws q 0 % 2 ^ k ≡ 0) g (blank-low ws at q s e f h blank) in
    let is : shifted_right s (shifted_left (32 - n) v) ≡ (v % 2 ^ n) * 2 ^ r =
    ap (λ k. k / 2 ^ s) (raised v n (omega arith)) ∙ ap (λ k. (v % 2 ^ n) * 2 ^ k / 2 ^ s) d ∙ raised-again (v % 2 ^ n) r s in
    word-replaced ws (bits n v) at q s (bit_or (get_or ws q 0) (shifted_right s (shifted_left (32 - n) v))) h (omega arith) (omega arith)
    (join (get_or ws q 0) v s n r (shifted_right s (shifted_left (32 - n) v)) (omega arith) z is)

-- ---- over two words
pub two-joined : (ws : List ℕ) (v at n q s : ℕ) → q ≡ at / 32 → s ≡ at % 32 → n ≤ 32 → 33 ≤ s + n → suc q < length ws → get_or ws (suc q) 0 < 2 ^ 32 → IsBlankFrom at (packed ws)
    → packed (set (set ws q (bit_or (get_or ws q 0) (shifted_right s (shifted_left (32 - n) v)))) (suc q) (shifted_left (64 - s - n) v)) ≡ replaced at (bits n v) (packed ws)
two-joined ws v at n q s e f few over h small blank =
    let k : ℕ = 32 - s in
    let l : ℕ = s + n - 32 in
    let d : ℕ = 32 - n in
    let x : ℕ = shifted_right s (shifted_left (32 - n) v) in
    let y : ℕ = bit_or (get_or ws q 0) x in
    let y' : ℕ = shifted_left (64 - s - n) v in
    let ws' : List ℕ = set ws q y in
    let lw : length ws' ≡ length ws = length-set ws q y in
    let lk : length (bits k (v / 2 ^ l)) ≡ k = length-bits k (v / 2 ^ l) in
    let ll : length (bits l v) ≡ l = length-bits l v in
    let lp : length (packed ws) ≡ 32 * length ws = length-packed ws in
    let z : get_or ws q 0 % 2 ^ (0 + k) ≡ 0 = (let g : k ≡ 0 + k = omega arith in subst (λ j. get_or ws q 0 % 2 ^ j ≡ 0) g (blank-low ws at q s e f (omega arith) blank)) in
    let sd : s ≡ d + l = omega arith in
    let nk : n ≡ k + l = omega arith in
    let is : x ≡ (v / 2 ^ l % 2 ^ k) * 2 ^ 0 =
    ap (λ j. j / 2 ^ s) (raised v n few) ∙ ap (λ j. (v % 2 ^ n) * 2 ^ d / 2 ^ j) sd ∙ sym (shr-shr ((v % 2 ^ n) * 2 ^ d) d l) ∙ ap (λ j. j / 2 ^ l) (shl-shr (v % 2 ^ n) d)
    ∙ ap (λ j. v % 2 ^ j / 2 ^ l) nk ∙ field_of v k l ∙ (let g : v / 2 ^ l % 2 ^ k ≡ (v / 2 ^ l % 2 ^ k) * 2 ^ 0 = omega arith in g) in
    let first : packed ws' ≡ replaced at (bits k (v / 2 ^ l)) (packed ws) =
    word-replaced ws (bits k (v / 2 ^ l)) at q s y (omega arith) (omega arith) (omega arith) (join (get_or ws q 0) (v / 2 ^ l) s k 0 x (omega arith) z is) in
    let apart : suc q ≢ q = omega arith in
    let none : get_or ws' (suc q) 0 ≡ 0 = get_or-set_other ws q (suc q) y 0 apart ∙ blank-next ws at (suc q) (omega arith) h small blank in
    let m : 64 - s - n ≡ 32 - l = omega arith in
    let is' : y' ≡ (v % 2 ^ l) * 2 ^ (32 - l) = ap (λ j. shifted_left j v) m ∙ raised v l (omega arith) in
    let z' : 0 % 2 ^ (32 - l + l) ≡ 0 = small-number 0 (32 - l + l) (pow_pos (32 - l + l)) in
    let placed : bits 32 y' ≡ replaced 0 (bits l v) (bits 32 (get_or ws' (suc q) 0)) =
    ap (bits 32) (sym (or_zero_l y')) ∙ join 0 v 0 l (32 - l) y' (omega arith) z' is' ∙ ap (λ j. replaced 0 (bits l v) (bits 32 j)) (sym none) in
    let second : packed (set ws' (suc q) y') ≡ replaced (at + k) (bits l v) (packed ws') =
    word-replaced ws' (bits l v) (at + k) (suc q) 0 y' (omega arith) (omega arith) (omega arith) placed in
    let split : bits n v ≡ bits k (v / 2 ^ l) ++ bits l v = ap (λ j. bits j v) nk ∙ bits-split k l v in
    second ∙ ap (λ b. replaced (at + k) (bits l v) b) first
    ∙ ap (λ j. replaced (at + j) (bits l v) (replaced at (bits k (v / 2 ^ l)) (packed ws))) (sym lk)
    ∙ replaced-more at (bits k (v / 2 ^ l)) (bits l v) (packed ws) (omega arith)
    ∙ ap (λ b. replaced at b (packed ws)) (sym split)
