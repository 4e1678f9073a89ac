-- The numbers that shifts cut out of words.
use Rattle.std.proofs.Common.{◌≡◌, ◌∙◌, ap, sym, ℕ, suc, ◌+◌, ◌-◌, ◌*◌, ◌/◌, ◌%◌, ◌^◌, ◌<◌, ◌≤◌, List, [], ◌∷◌, ◌++◌, take, drop, length, get_or, append_assoc, length-append, arith, bit_or}
use Rattle.std.proofs.Math.Seq.{take-length, split_at}
use Rattle.std.proofs.lemmas.Nat.{shr-shr, shl-shr, field_of, mod-pow-add, mod_low, or_shifted, pow_pos, pow-add}
use Rattle.nv_base.proofs.Rotation.{comes_round}
use Rattle.nv_base.specs.Words.{shifted_left, shifted_right}
use Rattle.nv_ast.specs.Bits.{bits, number, packed, slice}
use Rattle.nv_layout.proofs.BitLists.{length-bits, bits-split, number-append, number-bits, packed-append, packed-cons, packed-one, length-front, slice-bits, slice-middle, two_at}

-- ---- in one word
pub between-number : (w s n : ℕ) → s + n ≤ 32 → shifted_right (32 - n) (shifted_left s w) ≡ number (slice s n (bits 32 w))
between-number w s n h =
    let r : ℕ = 32 - s - n in
    let e : 32 ≡ (n + r) + s = omega arith in
    let d : 32 - n ≡ s + r = omega arith in
    let f : 32 ≡ s + (n + r) = omega arith in
    ap (λ k. ((w * 2 ^ s) % 2 ^ k) / 2 ^ (32 - n)) e
    ∙ ap (λ k. ((w * 2 ^ s) % 2 ^ ((n + r) + s)) / 2 ^ k) d
    ∙ sym (shr-shr ((w * 2 ^ s) % 2 ^ ((n + r) + s)) s r)
    ∙ ap (λ x. x / 2 ^ r) (field_of (w * 2 ^ s) (n + r) s ∙ ap (λ x. x % 2 ^ (n + r)) (shl-shr w s))
    ∙ field_of w n r
    ∙ sym (ap (λ k. number (slice s n (bits k w))) f ∙ ap number (slice-bits s n r w) ∙ number-bits n (w / 2 ^ r))

-- ---- over two words
pub no-rest : (w s : ℕ) → (w * 2 ^ s) % 2 ^ s ≡ 0
no-rest w s = let e : w * 2 ^ s ≡ w * 2 ^ s + 0 = omega arith in ap (λ k. k % 2 ^ s) e ∙ mod_low w s 0 (pow_pos s)

pub raised-low : (w k s : ℕ) → (w * 2 ^ s) % 2 ^ (k + s) ≡ (w % 2 ^ k) * 2 ^ s
raised-low w k s =
    mod-pow-add (w * 2 ^ s) k s
    ∙ ap (λ x. x % 2 ^ k * 2 ^ s + (w * 2 ^ s) % 2 ^ s) (shl-shr w s)
    ∙ ap (λ x. w % 2 ^ k * 2 ^ s + x) (no-rest w s)
    ∙ (let e : w % 2 ^ k * 2 ^ s + 0 ≡ w % 2 ^ k * 2 ^ s = omega arith in e)

pub raised-again : (x l d : ℕ) → x * 2 ^ (l + d) / 2 ^ d ≡ x * 2 ^ l
raised-again x l d = ap (λ p. x * p / 2 ^ d) (pow-add 2 l d) ∙ ap (λ p. p / 2 ^ d) (let e : x * (2 ^ l * 2 ^ d) ≡ x * 2 ^ l * 2 ^ d = grind arith in e) ∙ shl-shr (x * 2 ^ l) d

pub high-part : (w s n : ℕ) → s ≤ 31 → n ≤ 32 → 33 ≤ s + n → shifted_right (32 - n) (shifted_left s w) ≡ (w % 2 ^ (32 - s)) * 2 ^ (s + n - 32)
high-part w s n a b h =
    let k : ℕ = 32 - s in
    let l : ℕ = s + n - 32 in
    let d : ℕ = 32 - n in
    let e : 32 ≡ k + s = omega arith in
    let f : s ≡ l + d = omega arith in
    ap (λ j. ((w * 2 ^ s) % 2 ^ j) / 2 ^ d) e
    ∙ ap (λ x. x / 2 ^ d) (raised-low w k s)
    ∙ ap (λ j. (w % 2 ^ k) * 2 ^ j / 2 ^ d) f
    ∙ raised-again (w % 2 ^ k) l d

all-there : (n : ℕ) (w : List ℕ) → length w ≡ n → take n w ≡ w
all-there n w e = ap (λ k. take k w) (sym e) ∙ take-length w

pub small-number : (u l : ℕ) → u < 2 ^ l → u % 2 ^ l ≡ u
small-number u l h = let e : u ≡ 0 * 2 ^ l + u = omega arith in ap (λ x. x % 2 ^ l) e ∙ mod_low 0 l u h

pub across-number : (w v s n : ℕ) → v < 2 ^ 32 → s ≤ 31 → n ≤ 32 → 33 ≤ s + n → bit_or (shifted_right (32 - n) (shifted_left s w)) (shifted_right (64 - s - n) v) ≡ number (slice s n (bits 32 w ++ bits 32 v))
across-number w v s n small a b h =
    let k : ℕ = 32 - s in
    let l : ℕ = s + n - 32 in
    let u : ℕ = v / 2 ^ (32 - l) in
    let p : List ℕ = bits s (w / 2 ^ k) in
    let m : List ℕ = bits k w ++ bits l u in
    let r : List ℕ = bits (32 - l) v in
    let d : 64 - s - n ≡ 32 - l = omega arith in
    let e : 32 ≡ s + k = omega arith in
    let f : 32 ≡ l + (32 - l) = omega arith in
    let ub : u < 2 ^ l = comes_round v l small (omega arith) in
    let lp : length p ≡ s = length-bits s (w / 2 ^ k) in
    let lk : length (bits k w) ≡ k = length-bits k w in
    let ll : length (bits l u) ≡ l = length-bits l u in
    let lm : length m ≡ n = length-append (bits k w) (bits l u) ∙ omega arith in
    let i : s ≡ length p + 0 = omega arith in
    let wide : bits 32 w ≡ p ++ bits k w = ap (λ j. bits j w) e ∙ bits-split s k w in
    let next : bits 32 v ≡ bits l u ++ r = ap (λ j. bits j v) f ∙ bits-split l (32 - l) v in
    let all : bits 32 w ++ bits 32 v ≡ p ++ (m ++ r) =
    ap (λ x. x ++ bits 32 v) wide ∙ ap (λ x. (p ++ bits k w) ++ x) next ∙ append_assoc p (bits k w) (bits l u ++ r) ∙ ap (λ x. p ++ x) (sym (append_assoc (bits k w) (bits l u) r)) in
    let cut : slice s n (bits 32 w ++ bits 32 v) ≡ m = ap (slice s n) all ∙ slice-middle p m r s 0 n i (omega arith) ∙ all-there n m lm in
    let value : number m ≡ (w % 2 ^ k) * 2 ^ l + u =
    number-append (bits k w) (bits l u) ∙ ap (λ x. number (bits k w) * 2 ^ x + number (bits l u)) ll ∙ ap (λ x. x * 2 ^ l + number (bits l u)) (number-bits k w)
    ∙ ap (λ x. w % 2 ^ k * 2 ^ l + x) (number-bits l u ∙ small-number u l ub) in
    ap (λ x. bit_or x (v / 2 ^ (64 - s - n))) (high-part w s n a b h)
    ∙ ap (λ j. bit_or (w % 2 ^ k * 2 ^ l) (v / 2 ^ j)) d
    ∙ or_shifted (w % 2 ^ k) l u ub
    ∙ sym (ap number cut ∙ value)

-- ---- where the words lie
pub one-cut : (ws : List ℕ) (at n q s : ℕ) → q ≡ at / 32 → s ≡ at % 32 → s + n ≤ 32 → q < length ws → slice at n (packed ws) ≡ slice s n (bits 32 (get_or ws q 0))
one-cut ws at n q s e f h inside =
    let w : ℕ = get_or ws q 0 in
    let p : List ℕ = packed (take q ws) in
    let r : List ℕ = packed (drop (suc q) ws) in
    let lp : length p ≡ 32 * q = length-front ws q (omega arith) in
    let lw : length (bits 32 w) ≡ 32 = length-bits 32 w in
    let all : packed ws ≡ p ++ (bits 32 w ++ r) = ap packed (split_at ws q 0 inside) ∙ packed-append (take q ws) (w ∷ drop (suc q) ws) ∙ ap (λ l. p ++ l) (packed-cons w (drop (suc q) ws)) in
    ap (slice at n) all ∙ slice-middle p (bits 32 w) r at s n (omega arith) (omega arith)

pub two-cut : (ws : List ℕ) (at n q s : ℕ) → q ≡ at / 32 → s ≡ at % 32 → n ≤ 32 → suc q < length ws → slice at n (packed ws) ≡ slice s n (bits 32 (get_or ws q 0) ++ bits 32 (get_or ws (suc q) 0))
two-cut ws at n q s e f h inside =
    let w : ℕ = get_or ws q 0 in
    let v : ℕ = get_or ws (suc q) 0 in
    let p : List ℕ = packed (take q ws) in
    let lp : length p ≡ 32 * q = length-front ws q (omega arith) in
    let lw : length (bits 32 w) ≡ 32 = length-bits 32 w in
    let lv : length (bits 32 v) ≡ 32 = length-bits 32 v in
    let both : length (bits 32 w ++ bits 32 v) ≡ 64 = length-append (bits 32 w) (bits 32 v) ∙ omega arith in
    ap (slice at n) (two_at ws q inside) ∙ slice-middle p (bits 32 w ++ bits 32 v) (packed (drop (suc (suc q)) ws)) at s n (omega arith) (omega arith)

pub packed-two : (w v : ℕ) → packed (w ∷ v ∷ []) ≡ bits 32 w ++ bits 32 v
packed-two w v = packed-cons w (v ∷ []) ∙ ap (λ l. bits 32 w ++ l) (packed-one v)
