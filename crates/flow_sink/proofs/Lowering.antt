-- What a tree uses and defines with a definition further down.
use Rattle.std.proofs.Common.{◌≡◌, ℕ, Bool, true, false, not, nat_eq, ◌&&◌, ◌||◌, List, [], ◌∷◌, ◌++◌, refl, sym, ap, ◌∙◌, if◌then◌else◌}
use Rattle.std.proofs.lemmas.Bool.{and_parts, and_from, and_right, or_parts, or_from, not-true, not_from_false, false≢true}
use Rattle.nv_base.specs.declared.term.Primitive.{Primitive}
use Rattle.nv_base.specs.Words.{atom_vars, prim_vars}
use Rattle.nv_base.specs.Sets.{is_in, all_different, all_vars}
use Rattle.nv_base.proofs.Sets.{in-append, other-number, same-number}
use Rattle.flow_ir.specs.Tree.{Tree, Let, Read, Write, If, Jump, Halt}
use Rattle.flow_ir.specs.Formed.{defined}
use Rattle.flow_ir.specs.Wide.{uses}
use Rattle.flow_ir.specs.inner.Scoped.{Apart}
use Rattle.flow_ir.proofs.Members.{first-or-rest, different-parts, different-join}
use Rattle.flow_ir.proofs.Scopes.{not_same}
use Rattle.flow_sink.specs.Sunk.{differ, sinks}
use Rattle.flow_sink.specs.inner.Sinking.{placed, lowered, sunk}

-- ---- cases

pub at_if : {A : Type 0} (P : A → Type 0) (b : Bool) (r s : A) → (b ≡ true → P r) → (b ≡ false → P s) → P (if b then r else s)
at_if P true r s f g = f refl
at_if P false r s f g = g refl

pub placed_at : (P : Tree → Type 0) (x : ℕ) (p : Primitive) (t u : Tree) → (sinks x t ≡ true → P u) → (sinks x t ≡ false → P (Let x p t)) → P (placed x p t u)
placed_at P x p t u f g = at_if P (sinks x t) u (Let x p t) f g

pub differ_first : (a b : Bool) → differ a b ≡ true → a ≡ true → b ≡ false
differ_first true true e f = absurd (false≢true e)
differ_first true false e f = refl
differ_first false b e f = absurd (false≢true f)

-- ---- parts of lists

or_swap : (a b c : Bool) → (a || (b || c)) ≡ (b || (a || c))
or_swap true true c = refl
or_swap true false c = refl
or_swap false true c = refl
or_swap false false c = refl

or_joined : (a b c : Bool) → ((a || b) || c) ≡ (a || (b || c))
or_joined true b c = refl
or_joined false b c = refl

-- more in the second part
pub behind : (y : ℕ) (front us vs : List ℕ) (b : Bool) → is_in y us ≡ (b || is_in y vs) → is_in y (front ++ us) ≡ (b || is_in y (front ++ vs))
behind y front us vs b e = in-append y front us ∙ ap (λ v. is_in y front || v) e ∙ or_swap (is_in y front) b (is_in y vs) ∙ ap (λ v. b || v) (sym (in-append y front vs))

-- more in the first part
pub before : (y : ℕ) (us vs rest : List ℕ) (b : Bool) → is_in y us ≡ (b || is_in y vs) → is_in y (us ++ rest) ≡ (b || is_in y (vs ++ rest))
before y us vs rest b e = in-append y us rest ∙ ap (λ v. v || is_in y rest) e ∙ or_joined b (is_in y vs) (is_in y rest) ∙ ap (λ v. b || v) (sym (in-append y vs rest))

-- ---- uses

uses_placed : (x : ℕ) (p : Primitive) (y : ℕ) (t u : Tree) → is_in y (uses u) ≡ (is_in y (prim_vars p) || is_in y (uses t)) → is_in y (uses (placed x p t u)) ≡ (is_in y (prim_vars p) || is_in y (uses t))
uses_placed x p y t u e = placed_at (λ r. is_in y (uses r) ≡ (is_in y (prim_vars p) || is_in y (uses t))) x p t u (λ k. e) (λ k. in-append y (prim_vars p) (uses t))

pub uses_lowered : (x : ℕ) (p : Primitive) (y : ℕ) (t : Tree) → is_in y (uses (lowered x p t)) ≡ (is_in y (prim_vars p) || is_in y (uses t))
uses_lowered x p y (Let z q t) = behind y (prim_vars q) (uses (lowered x p t)) (uses t) (is_in y (prim_vars p)) (uses_lowered x p y t)
uses_lowered x p y (Read m xs a t) = behind y (atom_vars a) (uses (lowered x p t)) (uses t) (is_in y (prim_vars p)) (uses_lowered x p y t)
uses_lowered x p y (Write m a bs t) = behind y (all_vars (a ∷ bs)) (uses (lowered x p t)) (uses t) (is_in y (prim_vars p)) (uses_lowered x p y t)
uses_lowered x p y (If c a b t u) =
    let os = all_vars (a ∷ b ∷ []) in
    let inside = is_in y (prim_vars p) in
    let t' = placed x p t (lowered x p t) in
    let u' = placed x p u (lowered x p u) in
    at_if (λ r. is_in y (uses r) ≡ (inside || is_in y (uses (If c a b t u)))) (is_in x (uses t)) (If c a b t' u) (If c a b t u')
    (λ k. behind y os (uses t' ++ uses u) (uses t ++ uses u) inside (before y (uses t') (uses t) (uses u) inside (uses_placed x p y t (lowered x p t) (uses_lowered x p y t))))
    (λ k. behind y os (uses t ++ uses u') (uses t ++ uses u) inside (behind y (uses t) (uses u') (uses u) inside (uses_placed x p y u (lowered x p u) (uses_lowered x p y u))))
uses_lowered x p y (Jump l bs) = in-append y (prim_vars p) (all_vars bs)
uses_lowered x p y (Halt e bs) = in-append y (prim_vars p) (all_vars bs)

-- ---- what sinks

absent : (a b c : Bool) → a ≡ (b || c) → b ≡ false → a ≡ c
absent a b c e n = e ∙ ap (λ v. v || c) n

-- a definition whose variable the lowered one doesn't use sinks as before
pub sinks_lowered : (x : ℕ) (p : Primitive) (y : ℕ) (t : Tree) → is_in y (prim_vars p) ≡ false → sinks y (lowered x p t) ≡ sinks y t
sinks_lowered x p y (Let z q t) n = ap (λ v. not (is_in y (prim_vars q)) && v) (sinks_lowered x p y t n)
sinks_lowered x p y (Read m xs a t) n = ap (λ v. not (is_in y (atom_vars a)) && v) (sinks_lowered x p y t n)
sinks_lowered x p y (Write m a bs t) n = ap (λ v. not (is_in y (all_vars (a ∷ bs))) && v) (sinks_lowered x p y t n)
sinks_lowered x p y (If c a b t u) n =
    let os = all_vars (a ∷ b ∷ []) in
    let inside = is_in y (prim_vars p) in
    let t' = placed x p t (lowered x p t) in
    let u' = placed x p u (lowered x p u) in
    let same : (v : Tree) → is_in y (uses (placed x p v (lowered x p v))) ≡ is_in y (uses v) = λ v. absent (is_in y (uses (placed x p v (lowered x p v)))) inside (is_in y (uses v)) (uses_placed x p y v (lowered x p v) (uses_lowered x p y v)) n in
    at_if (λ r. sinks y r ≡ sinks y (If c a b t u)) (is_in x (uses t)) (If c a b t' u) (If c a b t u')
    (λ k. ap (λ v. not (is_in y os) && differ v (is_in y (uses u))) (same t))
    (λ k. ap (λ v. not (is_in y os) && differ (is_in y (uses t)) v) (same u))
sinks_lowered x p y (Jump l bs) n = and_right (not (is_in y (prim_vars p))) false refl
sinks_lowered x p y (Halt e bs) n = and_right (not (is_in y (prim_vars p))) false refl

-- ---- definitions

defined_placed : (x : ℕ) (p : Primitive) (y : ℕ) (t u : Tree) → is_in y (defined u) ≡ (nat_eq y x || is_in y (defined t)) → is_in y (defined (placed x p t u)) ≡ (nat_eq y x || is_in y (defined t))
defined_placed x p y t u e = placed_at (λ r. is_in y (defined r) ≡ (nat_eq y x || is_in y (defined t))) x p t u (λ k. e) (λ k. refl)

pub defined_lowered : (x : ℕ) (p : Primitive) (y : ℕ) (t : Tree) → is_in y (defined (lowered x p t)) ≡ (nat_eq y x || is_in y (defined t))
defined_lowered x p y (Let z q t) = behind y (z ∷ []) (defined (lowered x p t)) (defined t) (nat_eq y x) (defined_lowered x p y t)
defined_lowered x p y (Read m xs a t) = behind y xs (defined (lowered x p t)) (defined t) (nat_eq y x) (defined_lowered x p y t)
defined_lowered x p y (Write m a bs t) = defined_lowered x p y t
defined_lowered x p y (If c a b t u) =
    let t' = placed x p t (lowered x p t) in
    let u' = placed x p u (lowered x p u) in
    at_if (λ r. is_in y (defined r) ≡ (nat_eq y x || is_in y (defined (If c a b t u)))) (is_in x (uses t)) (If c a b t' u) (If c a b t u')
    (λ k. before y (defined t') (defined t) (defined u) (nat_eq y x) (defined_placed x p y t (lowered x p t) (defined_lowered x p y t)))
    (λ k. behind y (defined t) (defined u') (defined u) (nat_eq y x) (defined_placed x p y u (lowered x p u) (defined_lowered x p y u)))
defined_lowered x p y (Jump l bs) = refl
defined_lowered x p y (Halt e bs) = refl

pub defined_sunk : (y : ℕ) (t : Tree) → is_in y (defined (sunk t)) ≡ is_in y (defined t)
defined_sunk y (Let x p t) = defined_placed x p y (sunk t) (lowered x p (sunk t)) (defined_lowered x p y (sunk t)) ∙ ap (λ v. nat_eq y x || v) (defined_sunk y t)
defined_sunk y (Read m xs a t) = in-append y xs (defined (sunk t)) ∙ ap (λ v. is_in y xs || v) (defined_sunk y t) ∙ sym (in-append y xs (defined t))
defined_sunk y (Write m a bs t) = defined_sunk y t
defined_sunk y (If c a b t u) = in-append y (defined (sunk t)) (defined (sunk u)) ∙ ap (λ v. v || is_in y (defined (sunk u))) (defined_sunk y t) ∙ ap (λ v. is_in y (defined t) || v) (defined_sunk y u) ∙ sym (in-append y (defined t) (defined u))
defined_sunk y (Jump l bs) = refl
defined_sunk y (Halt e bs) = refl

pub apart_sunk : (xs : List ℕ) (t : Tree) → Apart xs (defined t) → Apart xs (defined (sunk t))
apart_sunk xs t h = λ y i. defined_sunk y t ∙ h y i

-- ---- each variable is defined once

-- where x is defined nowhere in these
abbrev pub Once : ℕ → List ℕ → Type 0
Once x ds = (is_in x ds ≡ false) × (all_different ds ≡ true)

different_placed : (x : ℕ) (p : Primitive) (t u : Tree) → Once x (defined t) → all_different (defined u) ≡ true → all_different (defined (placed x p t u)) ≡ true
different_placed x p t u h e = placed_at (λ r. all_different (defined r) ≡ true) x p t u (λ k. e) (λ k. and_from (not (is_in x (defined t))) (all_different (defined t)) (not_from_false (is_in x (defined t)) h.0) h.1)

pub different_lowered : (x : ℕ) (p : Primitive) (t : Tree) → Once x (defined t) → all_different (defined (lowered x p t)) ≡ true
different_lowered x p (Let z q t) h =
    let out = or_parts (nat_eq x z) (is_in x (defined t)) h.0 in
    let once = and_parts (not (is_in z (defined t))) (all_different (defined t)) h.1 in
    let gone : is_in z (defined (lowered x p t)) ≡ false = defined_lowered x p z t ∙ or_from (nat_eq z x) (is_in z (defined t)) (other-number x z out.0) (not-true (is_in z (defined t)) once.0) in
    and_from (not (is_in z (defined (lowered x p t)))) (all_different (defined (lowered x p t))) (not_from_false (is_in z (defined (lowered x p t))) gone) (different_lowered x p t (out.1, once.1))
different_lowered x p (Read m xs a t) h =
    let once = different-parts xs (defined t) h.1 in
    let out = or_parts (is_in x xs) (is_in x (defined t)) (sym (in-append x xs (defined t)) ∙ h.0) in
    different-join xs (defined (lowered x p t)) once.0 (different_lowered x p t (out.1, once.1))
    (λ y i. defined_lowered x p y t ∙ or_from (nat_eq y x) (is_in y (defined t)) (not_same x y xs out.0 i) (once.2 y i))
different_lowered x p (Write m a bs t) h = different_lowered x p t h
different_lowered x p (If c a b t u) h =
    let once = different-parts (defined t) (defined u) h.1 in
    let out = or_parts (is_in x (defined t)) (is_in x (defined u)) (sym (in-append x (defined t) (defined u)) ∙ h.0) in
    let t' = placed x p t (lowered x p t) in
    let u' = placed x p u (lowered x p u) in
    at_if (λ r. all_different (defined r) ≡ true) (is_in x (uses t)) (If c a b t' u) (If c a b t u')
    (λ k. different-join (defined t') (defined u) (different_placed x p t (lowered x p t) (out.0, once.0) (different_lowered x p t (out.0, once.0))) once.1
    (λ y i. apart_more x (defined t) (defined u) out.1 once.2 y (sym (defined_placed x p y t (lowered x p t) (defined_lowered x p y t)) ∙ i)))
    (λ k. different-join (defined t) (defined u') once.0 (different_placed x p u (lowered x p u) (out.1, once.1) (different_lowered x p u (out.1, once.1)))
    (λ y i. defined_placed x p y u (lowered x p u) (defined_lowered x p y u) ∙ or_from (nat_eq y x) (is_in y (defined u)) (not_same x y (defined t) out.0 i) (once.2 y i)))
  where
    apart_more : (x : ℕ) (a b : List ℕ) → is_in x b ≡ false → Apart a b → (y : ℕ) → (nat_eq y x || is_in y a) ≡ true → is_in y b ≡ false
    apart_more x a b e h y i = first-or-rest y x a i (λ q. ap (λ z. is_in z b) (same-number y x q) ∙ e) (λ q. h y q)
different_lowered x p (Jump l bs) h = refl
different_lowered x p (Halt e bs) h = refl

pub different_sunk : (t : Tree) → all_different (defined t) ≡ true → all_different (defined (sunk t)) ≡ true
different_sunk (Let x p t) h =
    let once = and_parts (not (is_in x (defined t))) (all_different (defined t)) h in
    let here : Once x (defined (sunk t)) = (defined_sunk x t ∙ not-true (is_in x (defined t)) once.0, different_sunk t once.1) in
    different_placed x p (sunk t) (lowered x p (sunk t)) here (different_lowered x p (sunk t) here)
different_sunk (Read m xs a t) h = let once = different-parts xs (defined t) h in different-join xs (defined (sunk t)) once.0 (different_sunk t once.1) (apart_sunk xs t once.2)
different_sunk (Write m a bs t) h = different_sunk t h
different_sunk (If c a b t u) h =
    let once = different-parts (defined t) (defined u) h in
    different-join (defined (sunk t)) (defined (sunk u)) (different_sunk t once.0) (different_sunk u once.1) (λ y i. defined_sunk y u ∙ once.2 y (sym (defined_sunk y t) ∙ i))
different_sunk (Jump l bs) h = refl
different_sunk (Halt e bs) h = refl
