-- What is in lists of variables, part by part.
use Rattle.std.proofs.Common.{◌≡◌, ℕ, Bool, true, false, not, nat_eq, List, [], ◌∷◌, ◌++◌, refl, sym, subst, ◌∙◌, ⊎_elim}
use Rattle.std.proofs.lemmas.Bool.{and_parts, and_from, or_cases, or_parts, or_left, or_right, or_from, not-true, not_from_false, false≢true, false_from_ne_true, eq-eqb}
use Rattle.nv_base.specs.Sets.{is_in, all_different, without, Within}
use Rattle.nv_base.proofs.Sets.{same-number, in-append, in-without}
use Rattle.flow_ir.specs.inner.Scoped.{Apart}

pub either : {C : Type 0} (x : ℕ) (a b : List ℕ) → is_in x (a ++ b) ≡ true → (is_in x a ≡ true → C) → (is_in x b ≡ true → C) → C
either x a b e f g = ⊎_elim f g (or_cases (is_in x a) (is_in x b) (sym (in-append x a b) ∙ e))

pub first-or-rest : {C : Type 0} (x y : ℕ) (a : List ℕ) → is_in x (y ∷ a) ≡ true → (nat_eq x y ≡ true → C) → (is_in x a ≡ true → C) → C
first-or-rest x y a e f g = ⊎_elim f g (or_cases (nat_eq x y) (is_in x a) e)

pub in-left : (x : ℕ) (a b : List ℕ) → is_in x a ≡ true → is_in x (a ++ b) ≡ true
in-left x a b e = in-append x a b ∙ or_left (is_in x a) (is_in x b) e

pub in-right : (x : ℕ) (a b : List ℕ) → is_in x b ≡ true → is_in x (a ++ b) ≡ true
in-right x a b e = in-append x a b ∙ or_right (is_in x a) (is_in x b) e

pub in-first : (x : ℕ) (a : List ℕ) → is_in x (x ∷ a) ≡ true
in-first x a = or_left (nat_eq x x) (is_in x a) (eq-eqb x x refl)

pub in-rest : (x y : ℕ) (a : List ℕ) → is_in x a ≡ true → is_in x (y ∷ a) ≡ true
in-rest x y a e = or_right (nat_eq x y) (is_in x a) e

pub out-both : (x : ℕ) (a b : List ℕ) → is_in x (a ++ b) ≡ false → (is_in x a ≡ false) × (is_in x b ≡ false)
out-both x a b e = or_parts (is_in x a) (is_in x b) (sym (in-append x a b) ∙ e)

pub out-join : (x : ℕ) (a b : List ℕ) → is_in x a ≡ false → is_in x b ≡ false → is_in x (a ++ b) ≡ false
out-join x a b e f = in-append x a b ∙ or_from (is_in x a) (is_in x b) e f

pub in-not-out : {C : Type 0} (x : ℕ) (a : List ℕ) → is_in x a ≡ true → is_in x a ≡ false → C
in-not-out x a e f = absurd (false≢true (sym f ∙ e))

pub stays : (x : ℕ) (a gone : List ℕ) → is_in x a ≡ true → is_in x gone ≡ false → is_in x (without a gone) ≡ true
stays x a gone e f = in-without x a gone ∙ and_from (is_in x a) (not (is_in x gone)) e (not_from_false (is_in x gone) f)

pub stayed : (x : ℕ) (a gone : List ℕ) → is_in x (without a gone) ≡ true → (is_in x a ≡ true) × (is_in x gone ≡ false)
stayed x a gone e = let parts = and_parts (is_in x a) (not (is_in x gone)) (sym (in-without x a gone) ∙ e) in (parts.0, not-true (is_in x gone) parts.1)

in-or-out-at : {C : Type 0} (b : Bool) (x : ℕ) (a : List ℕ) → is_in x a ≡ b → (is_in x a ≡ true → C) → (is_in x a ≡ false → C) → C
in-or-out-at true x a e f g = f e
in-or-out-at false x a e f g = g e

-- in one list or not
pub in-or-out : {C : Type 0} (x : ℕ) (a : List ℕ) → (is_in x a ≡ true → C) → (is_in x a ≡ false → C) → C
in-or-out x a f g = in-or-out-at (is_in x a) x a refl f g

-- ---- more and more

pub front-more : (front a b extra : List ℕ) → Within b (a ++ extra) → Within (front ++ b) ((front ++ a) ++ extra)
front-more front a b extra h =
    λ x e. either x front b e (λ p. in-left x (front ++ a) extra (in-left x front a p))
    (λ p. either x a extra (h x p) (λ q. in-left x (front ++ a) extra (in-right x front a q)) (λ q. in-right x (front ++ a) extra q))

pub gone-more : (gone a b extra : List ℕ) → Within b (a ++ extra) → Within (without b gone) (without a gone ++ extra)
gone-more gone a b extra h =
    λ x e.
    let parts = stayed x b gone e in
    either x a extra (h x parts.0) (λ q. in-left x (without a gone) extra (stays x a gone q parts.1)) (λ q. in-right x (without a gone) extra q)

pub both-more : (a b c d extra : List ℕ) → Within b (a ++ extra) → Within d (c ++ extra) → Within (b ++ d) ((a ++ c) ++ extra)
both-more a b c d extra h g =
    λ x e.
    either x b d e (λ p. either x a extra (h x p) (λ q. in-left x (a ++ c) extra (in-left x a c q)) (λ q. in-right x (a ++ c) extra q))
    (λ p. either x c extra (g x p) (λ q. in-left x (a ++ c) extra (in-right x a c q)) (λ q. in-right x (a ++ c) extra q))

-- ---- all different

pub apart-turned : (a b : List ℕ) → Apart a b → Apart b a
apart-turned a b h = λ x i. false_from_ne_true (is_in x a) (λ p. false≢true (sym (h x p) ∙ i))

pub different-parts : (a b : List ℕ) → all_different (a ++ b) ≡ true → (all_different a ≡ true) × (all_different b ≡ true) × Apart a b
different-parts [] b e = (refl, e, λ x i. absurd (false≢true i))
different-parts (x ∷ a) b e =
    let parts = and_parts (not (is_in x (a ++ b))) (all_different (a ++ b)) e in
    let out = out-both x a b (not-true (is_in x (a ++ b)) parts.0) in
    let rest = different-parts a b parts.1 in (
      and_from (not (is_in x a)) (all_different a) (not_from_false (is_in x a) out.0) rest.0,
      rest.1,
      λ y i. first-or-rest y x a i (λ (p : nat_eq y x ≡ true). subst (λ z. is_in z b ≡ false) (sym (same-number y x p)) out.1) (λ p. rest.2 y p),
    )

pub different-join : (a b : List ℕ) → all_different a ≡ true → all_different b ≡ true → Apart a b → all_different (a ++ b) ≡ true
different-join [] b p q h = q
different-join (x ∷ a) b p q h =
    let parts = and_parts (not (is_in x a)) (all_different a) p in
    and_from (not (is_in x (a ++ b))) (all_different (a ++ b)) (not_from_false (is_in x (a ++ b)) (out-join x a b (not-true (is_in x a) parts.0) (h x (in-first x a))))
    (different-join a b parts.1 q (λ y i. h y (in-rest y x a i)))
