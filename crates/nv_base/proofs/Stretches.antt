-- A list with one stretch replaced.
use Rattle.std.proofs.Common.{◌≡◌, ℕ, zero, suc, ◌+◌, ◌≤◌, List, [], ◌∷◌, ◌++◌, length, take, drop, refl, sym, ap, ◌∙◌, append_assoc, arith}
use Rattle.std.proofs.lemmas.List.{length-append, length-take, length-drop}
use Rattle.std.proofs.Math.Seq.{drop-append_seam, take-append_seam}

-- the list with these words from a place on
abbrev pub splice : ℕ → List ℕ → List ℕ → List ℕ
splice a ws x = take a x ++ ws ++ drop (a + length ws) x

splice-cons : (a : ℕ) (ws x : List ℕ) (c : ℕ) → splice (suc a) ws (c ∷ x) ≡ c ∷ splice a ws x
splice-cons a ws x c =
    let e : suc a + length ws ≡ suc (a + length ws) = omega arith in
    ap (λ n. (c ∷ take a x) ++ ws ++ drop n (c ∷ x)) e

splice-zero : (ws x : List ℕ) → splice 0 ws x ≡ ws ++ drop (length ws) x
splice-zero ws x =
    let e : 0 + length ws ≡ length ws = omega arith in
    ap (λ n. ws ++ drop n x) e

pub splice-length : (a : ℕ) (ws x : List ℕ) → a + length ws ≤ length x → length (splice a ws x) ≡ length x
splice-length a ws x fits = grind (arith, length-append, length-take, length-drop)

front-behind : (k : ℕ) (ws x y : List ℕ) → take k x ≡ take k y → length x ≡ length y → take k (ws ++ drop (length ws) x) ≡ take k (ws ++ drop (length ws) y)
front-behind zero ws x y e l = refl
front-behind k [] x y e l = e
front-behind (suc k) (w ∷ ws) (c ∷ x) (d ∷ y) e l =
    let tail : take k x ≡ take k y = cc in
    ap (λ z. w ∷ z) (front-behind k ws x y tail (omega arith))
front-behind (suc k) (w ∷ ws) [] [] e l = refl
front-behind (suc k) (w ∷ ws) [] (d ∷ y) e l = absurd (omega arith)
front-behind (suc k) (w ∷ ws) (c ∷ x) [] e l = absurd (omega arith)

-- the first k elements depend on the first k alone
pub splice-front : (k a : ℕ) (ws x y : List ℕ) → take k x ≡ take k y → length x ≡ length y → a ≤ length x → take k (splice a ws x) ≡ take k (splice a ws y)
splice-front zero a ws x y e l fits = refl
splice-front (suc k) zero ws x y e l fits = ap (take (suc k)) (splice-zero ws x) ∙ front-behind (suc k) ws x y e l ∙ sym (ap (take (suc k)) (splice-zero ws y))
splice-front (suc k) (suc a) ws (c ∷ x) (d ∷ y) e l fits =
    let head : c ≡ d = cc in
    let tail : take k x ≡ take k y = cc in
    ap (take (suc k)) (splice-cons a ws x c)
    ∙ ap (λ z. z ∷ take k (splice a ws x)) head
    ∙ ap (λ z. d ∷ z) (splice-front k a ws x y tail (omega arith) (omega arith))
    ∙ sym (ap (take (suc k)) (splice-cons a ws y d))
splice-front (suc k) (suc a) ws [] y e l fits = absurd (omega arith)
splice-front (suc k) (suc a) ws (c ∷ x) [] e l fits = absurd (omega arith)

-- a stretch after the first k elements leaves them
pub splice-behind : (k a : ℕ) (ws x : List ℕ) → k ≤ a → a ≤ length x → take k (splice a ws x) ≡ take k x
splice-behind zero a ws x le fits = refl
splice-behind (suc k) zero ws x le fits = absurd (omega arith)
splice-behind (suc k) (suc a) ws [] le fits = absurd (omega arith)
splice-behind (suc k) (suc a) ws (c ∷ x) le fits =
    ap (take (suc k)) (splice-cons a ws x c) ∙ ap (λ z. c ∷ z) (splice-behind k a ws x (omega arith) (omega arith))

-- the stretch is what was put there
pub splice-stretch : (a : ℕ) (ws x : List ℕ) → a ≤ length x → take (length ws) (drop a (splice a ws x)) ≡ ws
splice-stretch a ws x fits =
    let rest = drop (a + length ws) x in
    let long : length (take a x) ≡ a = grind (arith, length-take) in
    let seam : drop a (splice a ws x) ≡ ws ++ rest =
    ap (λ n. drop n (take a x ++ ws ++ rest)) (sym long)
    ∙ ap (drop (length (take a x))) (append_assoc (take a x) ws rest)
    ∙ drop-append_seam (take a x) (ws ++ rest) in
    ap (take (length ws)) seam ∙ take-append_seam ws rest

-- ---- words that the stretch doesn't touch

-- those before it
pub splice-before : (n c a : ℕ) (ws x : List ℕ) → c + n ≤ a → a ≤ length x → take n (drop c (splice a ws x)) ≡ take n (drop c x)
splice-before n zero a ws x le fits = splice-behind n a ws x (omega arith) fits
splice-before n (suc c) zero ws x le fits = absurd (omega arith)
splice-before n (suc c) (suc a) ws [] le fits = absurd (omega arith)
splice-before n (suc c) (suc a) ws (y ∷ x) le fits = ap (λ z. take n (drop (suc c) z)) (splice-cons a ws x y) ∙ splice-before n c a ws x (omega arith) (omega arith)

drop-past : (ws x : List ℕ) (c : ℕ) → length ws ≤ c → length ws ≤ length x → drop c (ws ++ drop (length ws) x) ≡ drop c x
drop-past [] x c le fits = refl
drop-past (w ∷ ws) [] c le fits = absurd (omega arith)
drop-past (w ∷ ws) (y ∷ x) zero le fits = absurd (omega arith)
drop-past (w ∷ ws) (y ∷ x) (suc c) le fits = drop-past ws x c (omega arith) (omega arith)

-- those after it
pub splice-after : (c a : ℕ) (ws x : List ℕ) → a + length ws ≤ c → a + length ws ≤ length x → drop c (splice a ws x) ≡ drop c x
splice-after c zero ws x le fits = ap (drop c) (splice-zero ws x) ∙ drop-past ws x c (omega arith) (omega arith)
splice-after zero (suc a) ws x le fits = absurd (omega arith)
splice-after (suc c) (suc a) ws [] le fits = absurd (omega arith)
splice-after (suc c) (suc a) ws (y ∷ x) le fits = ap (drop (suc c)) (splice-cons a ws x y) ∙ splice-after c a ws x (omega arith) (omega arith)

-- ---- two stretches

front-first : (ws : List ℕ) (b : ℕ) (vs x : List ℕ) → length ws ≤ b → b ≤ length x → splice b vs (ws ++ drop (length ws) x) ≡ ws ++ drop (length ws) (splice b vs x)
front-first [] b vs x le fits = refl
front-first (w ∷ ws) zero vs x le fits = absurd (omega arith)
front-first (w ∷ ws) (suc b) vs [] le fits = absurd (omega arith)
front-first (w ∷ ws) (suc b) vs (y ∷ x) le fits =
    splice-cons b vs (ws ++ drop (length ws) x) w
    ∙ ap (λ z. w ∷ z) (front-first ws b vs x (omega arith) (omega arith))
    ∙ sym (ap (λ z. (w ∷ ws) ++ drop (suc (length ws)) z) (splice-cons b vs x y))

-- the order of two that are apart doesn't matter
pub splice-order : (a b : ℕ) (ws vs x : List ℕ) → a + length ws ≤ b → b ≤ length x → splice b vs (splice a ws x) ≡ splice a ws (splice b vs x)
splice-order zero b ws vs x le fits = ap (splice b vs) (splice-zero ws x) ∙ front-first ws b vs x (omega arith) fits ∙ sym (splice-zero ws (splice b vs x))
splice-order (suc a) zero ws vs x le fits = absurd (omega arith)
splice-order (suc a) (suc b) ws vs [] le fits = absurd (omega arith)
splice-order (suc a) (suc b) ws vs (y ∷ x) le fits =
    ap (splice (suc b) vs) (splice-cons a ws x y)
    ∙ splice-cons b vs (splice a ws x) y
    ∙ ap (λ z. y ∷ z) (splice-order a b ws vs x (omega arith) (omega arith))
    ∙ sym (splice-cons a ws (splice b vs x) y)
    ∙ sym (ap (splice (suc a) ws) (splice-cons b vs x y))
