-- Words that are put into SDRAM piece by piece.
use Rattle.std.proofs.Common.{◌≡◌, ℕ, zero, suc, ◌+◌, ◌*◌, ◌/◌, ◌%◌, ◌≤◌, ◌<◌, List, [], ◌∷◌, ◌++◌, true, false, Some, None, length, take, drop, sym, ap, ◌∙◌, arith, nat_le, if◌then◌else◌, length-append}
use Rattle.std.proofs.lemmas.Bool.{le-leb, lt-leb}
use Rattle.std.proofs.lemmas.List.{append-nil, take-append-drop}
use Rattle.nv_base.proofs.Stretches.{splice, splice-length}
use Rattle.nv_base.specs.Memories.{IsAccess, Memories, stored}
use Rattle.nv_base.specs.declared.term.Mem.TheVariants.{Sdram}

splice-cons : (a : ℕ) (ws x : List ℕ) (c : ℕ) → splice (suc a) ws (c ∷ x) ≡ c ∷ splice a ws x
splice-cons a ws x c =
    let e : suc a + length ws ≡ suc (a + length ws) = omega arith in
    ap (λ n. (c ∷ take a x) ++ ws ++ drop n (c ∷ x)) e

splice-zero : (ws x : List ℕ) → splice 0 ws x ≡ ws ++ drop (length ws) x
splice-zero ws x =
    let e : 0 + length ws ≡ length ws = omega arith in
    ap (λ n. ws ++ drop n x) e

more-front : (xs ys x : List ℕ) → length xs + length ys ≤ length x → splice (length xs) ys (xs ++ drop (length xs) x) ≡ (xs ++ ys) ++ drop (length (xs ++ ys)) x
more-front [] ys x fits = splice-zero ys x
more-front (w ∷ xs) ys [] fits = absurd (omega arith)
more-front (w ∷ xs) ys (c ∷ x) fits = splice-cons (length xs) ys (xs ++ drop (length xs) x) w ∙ ap (λ z. w ∷ z) (more-front xs ys x (omega arith))

-- two pieces, one behind the other, are one
pub splice-more : (a : ℕ) (xs ys x : List ℕ) → a + length xs + length ys ≤ length x → splice (a + length xs) ys (splice a xs x) ≡ splice a (xs ++ ys) x
splice-more zero xs ys x fits =
    let e : 0 + length xs ≡ length xs = omega arith in
    ap (λ n. splice n ys (splice 0 xs x)) e
    ∙ ap (splice (length xs) ys) (splice-zero xs x)
    ∙ more-front xs ys x (omega arith)
    ∙ sym (splice-zero (xs ++ ys) x)
splice-more (suc a) xs ys [] fits = absurd (omega arith)
splice-more (suc a) xs ys (c ∷ x) fits =
    let e : suc a + length xs ≡ suc (a + length xs) = omega arith in
    ap (λ n. splice n ys (splice (suc a) xs (c ∷ x))) e
    ∙ ap (splice (suc (a + length xs)) ys) (splice-cons a xs x c)
    ∙ splice-cons (a + length xs) ys (splice a xs x) c
    ∙ ap (λ z. c ∷ z) (splice-more a xs ys x (omega arith))
    ∙ sym (splice-cons a (xs ++ ys) x c)

-- the memories with these words in SDRAM, from a word on
abbrev pub put : ℕ → List ℕ → Memories → Memories
put a ws p = record { sram = p.sram; sdram = splice a ws p.sdram; scratch = p.scratch }

-- a store into SDRAM
stored_put : (at : ℕ) (ws : List ℕ) (p : Memories) → 2 * at + length ws ≤ length p.sdram → stored Sdram at ws p ≡ Some (put (2 * at) ws p)
stored_put at ws p fits =
    let e : nat_le (2 * at + length ws) (length p.sdram) ≡ true = le-leb (2 * at + length ws) (length p.sdram) fits in
    ap (λ b. if b then Some (put (2 * at) ws p) else None) e

pub stored_past : (at : ℕ) (ws : List ℕ) (p : Memories) → length p.sdram < 2 * at + length ws → stored Sdram at ws p ≡ None
stored_past at ws p past =
    let e : nat_le (2 * at + length ws) (length p.sdram) ≡ false = lt-leb (2 * at + length ws) (length p.sdram) past in
    ap (λ b. if b then Some (put (2 * at) ws p) else None) e

-- what is stored is what was put
stored_is : (at : ℕ) (ws : List ℕ) (p q : Memories) → 2 * at + length ws ≤ length p.sdram → stored Sdram at ws p ≡ Some q → q ≡ put (2 * at) ws p
stored_is at ws p q fits is =
    let both : Some q ≡ Some (put (2 * at) ws p) = sym is ∙ stored_put at ws p fits in
    cc

-- words that fit are stored
pub stored_can : (at : ℕ) (ws : List ℕ) (p : Memories) → 2 * at + length ws ≤ length p.sdram → stored Sdram at ws p ≡ None → ⊥
stored_can at ws p fits none =
    let both : None ≡ Some (put (2 * at) ws p) = sym none ∙ stored_put at ws p fits in
    cc

put-nothing : (a : ℕ) (x : List ℕ) → splice a [] x ≡ x
put-nothing a x =
    let e : a + length {A = ℕ} [] ≡ a = omega arith in
    ap (λ n. take a x ++ [] ++ drop n x) e ∙ ap (λ z. z ++ drop a x) (append-nil (take a x)) ∙ take-append-drop a x

pub stored_nothing : (at : ℕ) (p : Memories) → 2 * at ≤ length p.sdram → stored Sdram at [] p ≡ Some p
stored_nothing at p fits =
    let long : 2 * at + length {A = ℕ} [] ≤ length p.sdram = omega arith in
    stored_put at [] p long ∙ ap (λ x. Some (record { sram = p.sram; sdram = x; scratch = p.scratch })) (put-nothing (2 * at) p.sdram)

-- how long SDRAM is behind a store
pub stored_length : (at : ℕ) (ws : List ℕ) (p q : Memories) → 2 * at + length ws ≤ length p.sdram → stored Sdram at ws p ≡ Some q → length q.sdram ≡ length p.sdram
stored_length at ws p q fits is = ap (λ r. length r.sdram) (stored_is at ws p q fits is) ∙ splice-length (2 * at) ws p.sdram fits

-- two pieces, one behind the other, are one
pub stored_more : (at half : ℕ) (front after : List ℕ) (p q : Memories) → length front ≡ 2 * half → 2 * at + length front + length after ≤ length p.sdram
    → stored Sdram at front p ≡ Some q → stored Sdram (at + half) after q ≡ stored Sdram at (front ++ after) p
stored_more at half front after p q even fits is =
    let first : 2 * at + length front ≤ length p.sdram = omega arith in
    let long : length (splice (2 * at) front p.sdram) ≡ length p.sdram = splice-length (2 * at) front p.sdram first in
    let behind : 2 * (at + half) ≡ 2 * at + length front = omega arith in
    let next : 2 * (at + half) + length after ≤ length (splice (2 * at) front p.sdram) = omega arith in
    let whole : 2 * at + length (front ++ after) ≤ length p.sdram = omega (arith, length-append front after) in
    ap (stored Sdram (at + half) after) (stored_is at front p q first is)
    ∙ stored_put (at + half) after (put (2 * at) front p) next
    ∙ ap (λ x. Some (record { sram = p.sram; sdram = x; scratch = p.scratch }))
    (ap (λ n. splice n after (splice (2 * at) front p.sdram)) behind ∙ splice-more (2 * at) front after p.sdram fits)
    ∙ sym (stored_put at (front ++ after) p whole)

-- an access of SDRAM
pub access_even : (n : ℕ) → 0 < n → n ≤ 8 → n % 2 ≡ 0 → IsAccess Sdram n
access_even n some few even = (n / 2, omega arith, omega arith, omega arith)
