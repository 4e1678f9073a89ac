-- Labels and their indices.
use Rattle.std.proofs.Common.{◌≡◌, ℕ, zero, suc, ◌+◌, ◌≢◌, Bool, true, false, not, nat_eq, ◌||◌, List, [], ◌∷◌, ◌++◌, Some, None, refl, sym, ap, subst, ◌∙◌, slice_get, slice_set, arith}
use Rattle.std.proofs.lemmas.Bool.{and_parts, and_from, or_parts, or_from, not-true, not_from_false, false≢true, false_from_ne_true, eq-eqb}
use Rattle.std.proofs.lemmas.Option.{none-some, same_Some}
use Rattle.nv_base.specs.Sets.{is_in, all_different}
use Rattle.nv_base.proofs.Sets.{other-number, same-number, in-append}
use Rattle.cps_ir.specs.Term.{Term, Let, Read, Write, If, Fix, Call, Return, Throw, Jump, Halt, Labels, none, label}
use Rattle.cps_ir.specs.View.{Seen}
use Rattle.cps_ir.specs.Formed.{made, labels_made}
use Rattle.flow_ir.specs.Tree as flow
use Rattle.cps_close.specs.inner.Closed.{Table, labels_in, labels_of_all, index_of, or_here, or_nothing, with_wanted, closed_labels}
use Rattle.flow_ir.proofs.Members.{in-first, in-rest, apart-turned, different-parts, different-join}
use Rattle.flow_ir.specs.inner.Scoped.{Apart}

-- ---- the names of labels

abbrev pub names : List Seen → List ℕ
names [] = []
names (c ∷ cs) = c.label ∷ names cs

names-append : (a b : List Seen) → names (a ++ b) ≡ names a ++ names b
names-append [] b = refl
names-append (c ∷ a) b = ap (λ l. c.label ∷ l) (names-append a b)

turned : (p q : Bool) → (p || q) ≡ (q || p)
turned true true = refl
turned true false = refl
turned false true = refl
turned false false = refl

passed : (p q r : Bool) → (p || (q || r)) ≡ ((q || p) || r)
passed true true r = refl
passed true false r = refl
passed false true r = refl
passed false false r = refl

in-names : (l : ℕ) (a b : List Seen) → is_in l (names (a ++ b)) ≡ (is_in l (names a) || is_in l (names b))
in-names l a b = ap (λ xs. is_in l xs) (names-append a b) ∙ in-append l (names a) (names b)

mutual
  in-made : (l : ℕ) (t : Term) → is_in l (names (labels_in t)) ≡ is_in l (made t)
  in-made l (Let x a t) = in-made l t
  in-made l (Read m xs a t) = in-made l t
  in-made l (Write m a bs t) = in-made l t
  in-made l (If c a b t u) = in-names l (labels_in t) (labels_in u) ∙ ap (λ p. p || is_in l (names (labels_in u))) (in-made l t) ∙ ap (λ q. is_in l (made t) || q) (in-made l u) ∙ sym (in-append l (made t) (made u))
  in-made l (Fix ls t) =
      in-names l (labels_of_all ls) (labels_in t) ∙ turned (is_in l (names (labels_of_all ls))) (is_in l (names (labels_in t))) ∙ ap (λ p. p || is_in l (names (labels_of_all ls))) (in-made l t)
      ∙ ap (λ q. is_in l (made t) || q) (in-all-made l ls) ∙ sym (in-append l (made t) (labels_made ls))
  in-made l (Call f bs k hs) = refl
  in-made l (Return bs) = refl
  in-made l (Throw e bs) = refl
  in-made l (Jump k bs) = refl
  in-made l (Halt e bs) = refl

  in-all-made : (l : ℕ) (ls : Labels) → is_in l (names (labels_of_all ls)) ≡ is_in l (labels_made ls)
  in-all-made l none = refl
  in-all-made l (label k xs t ls) =
      in-names l (labels_in t) (record { label = k; params = xs; body = t } ∷ labels_of_all ls) ∙ passed (is_in l (names (labels_in t))) (nat_eq l k) (is_in l (names (labels_of_all ls)))
      ∙ ap (λ p. (nat_eq l k || p) || is_in l (names (labels_of_all ls))) (in-made l t) ∙ ap (λ q. (nat_eq l k || is_in l (made t)) || q) (in-all-made l ls) ∙ sym (in-append l (k ∷ made t) (labels_made ls))

-- the labels of two terms
apart-names : (a b : List Seen) (p q : List ℕ) → ((l : ℕ) → is_in l (names a) ≡ is_in l p) → ((l : ℕ) → is_in l (names b) ≡ is_in l q) → Apart p q → Apart (names a) (names b)
apart-names a b p q f g h l e = g l ∙ h l (sym (f l) ∙ e)

join-names : (a b : List Seen) → all_different (names a) ≡ true → all_different (names b) ≡ true → Apart (names a) (names b) → all_different (names (a ++ b)) ≡ true
join-names a b p q h = ap all_different (names-append a b) ∙ different-join (names a) (names b) p q h

mutual
  pub names-different : (t : Term) → all_different (made t) ≡ true → all_different (names (labels_in t)) ≡ true
  names-different (Let x a t) e = names-different t e
  names-different (Read m xs a t) e = names-different t e
  names-different (Write m a bs t) e = names-different t e
  names-different (If c a b t u) e =
      let parts = different-parts (made t) (made u) e in
      join-names (labels_in t) (labels_in u) (names-different t parts.0) (names-different u parts.1) (apart-names (labels_in t) (labels_in u) (made t) (made u) (λ l. in-made l t) (λ l. in-made l u) parts.2)
  names-different (Fix ls t) e =
      let parts = different-parts (made t) (labels_made ls) e in
      join-names (labels_of_all ls) (labels_in t) (all-names-different ls parts.1) (names-different t parts.0)
      (apart-turned (names (labels_in t)) (names (labels_of_all ls)) (apart-names (labels_in t) (labels_of_all ls) (made t) (labels_made ls) (λ l. in-made l t) (λ l. in-all-made l ls) parts.2))
  names-different (Call f bs k hs) e = refl
  names-different (Return bs) e = refl
  names-different (Throw k bs) e = refl
  names-different (Jump l bs) e = refl
  names-different (Halt k bs) e = refl

  pub all-names-different : (ls : Labels) → all_different (labels_made ls) ≡ true → all_different (names (labels_of_all ls)) ≡ true
  all-names-different none e = refl
  all-names-different (label k xs t ls) e =
      let outer = different-parts (k ∷ made t) (labels_made ls) e in
      let inner = and_parts (not (is_in k (made t))) (all_different (made t)) outer.0 in
      let c : Seen = record { label = k; params = xs; body = t } in
      let here : is_in k (names (labels_of_all ls)) ≡ false = in-all-made k ls ∙ outer.2 k (in-first k (made t)) in
      join-names (labels_in t) (record { label = k; params = xs; body = t } ∷ labels_of_all ls) (names-different t inner.1)
      (and_from (not (is_in k (names (labels_of_all ls)))) (all_different (names (labels_of_all ls))) (not_from_false (is_in k (names (labels_of_all ls))) here) (all-names-different ls outer.1))
      (λ l i.
      let made' : is_in l (made t) ≡ true = sym (in-made l t) ∙ i in
      or_from (nat_eq l k) (is_in l (names (labels_of_all ls)))
      (false_from_ne_true (nat_eq l k) (λ q. false≢true (sym (not-true (is_in k (made t)) inner.0) ∙ subst (λ z. is_in z (made t) ≡ true) (same-number l k q) made')))
      (in-all-made l ls ∙ outer.2 l (in-rest l k (made t) made')))

-- ---- indices

absent : (k : ℕ) (cs : List Seen) (l : ℕ) → is_in l (names cs) ≡ false → index_of k cs l ≡ None
absent k [] l e = refl
absent k (c ∷ cs) l e =
    let parts = or_parts (nat_eq l c.label) (is_in l (names cs)) e in
    ap (λ o. or_here o (nat_eq c.label l) k) (absent (suc k) cs l parts.1) ∙ ap (λ b. or_here None b k) (other-number l c.label parts.0)

pub present : (k : ℕ) (cs : List Seen) (i : ℕ) (c : Seen) → all_different (names cs) ≡ true → slice_get cs i ≡ Some c → index_of k cs c.label ≡ Some (k + i)
present k [] i c d e = absurd (none-some c e)
present k (b ∷ cs) zero c d e =
    let same : b ≡ c = same_Some b c e in
    let parts = and_parts (not (is_in b.label (names cs))) (all_different (names cs)) d in
    subst (λ (z : Seen). index_of k (b ∷ cs) z.label ≡ Some (k + 0)) same
    (ap (λ o. or_here o (nat_eq b.label b.label) k) (absent (suc k) cs b.label (not-true (is_in b.label (names cs)) parts.0)) ∙ ap (λ q. or_here None q k) (eq-eqb b.label b.label refl) ∙ ap (λ n. Some n) (let zero' : k ≡ k + 0 = omega arith in zero'))
present k (b ∷ cs) (suc i) c d e =
    let parts = and_parts (not (is_in b.label (names cs))) (all_different (names cs)) d in
    ap (λ o. or_here o (nat_eq b.label c.label) k) (present (suc k) cs i c parts.1 e) ∙ ap (λ n. Some n) (let next : suc k + i ≡ k + suc i = omega arith in next)

-- ---- closed labels

pub closed-at : (tab : Table) (cs : List Seen) (ws : List (List ℕ)) (i : ℕ) (c : Seen) → slice_get cs i ≡ Some c → slice_get (closed_labels tab cs ws) i ≡ Some (with_wanted tab c (or_nothing (slice_get ws i)))
closed-at tab [] ws i c e = absurd (none-some c e)
closed-at tab (d ∷ cs) [] zero c e = let same : d ≡ c = same_Some d c e in ap (λ z. Some (with_wanted tab z [])) same
closed-at tab (d ∷ cs) (w ∷ ws) zero c e = let same : d ≡ c = same_Some d c e in ap (λ z. Some (with_wanted tab z w)) same
closed-at tab (d ∷ cs) [] (suc i) c e = closed-at tab cs [] i c e
closed-at tab (d ∷ cs) (w ∷ ws) (suc i) c e = closed-at tab cs ws i c e

pub closed-from : (tab : Table) (cs : List Seen) (ws : List (List ℕ)) (i : ℕ) (l : flow.Label) → slice_get (closed_labels tab cs ws) i ≡ Some l → (c : Seen) × (slice_get cs i ≡ Some c)
closed-from tab [] ws i l e = absurd (none-some l e)
closed-from tab (d ∷ cs) [] zero l e = (d, refl)
closed-from tab (d ∷ cs) (w ∷ ws) zero l e = (d, refl)
closed-from tab (d ∷ cs) [] (suc i) l e = closed-from tab cs [] i l e
closed-from tab (d ∷ cs) (w ∷ ws) (suc i) l e = closed-from tab cs ws i l e

-- ---- a list with one place set

pub set-other : (ws : List (List ℕ)) (i j : ℕ) (v : List ℕ) → i ≢ j → slice_get (slice_set ws i v) j ≡ slice_get ws j
set-other [] i j v h = refl
set-other (w ∷ ws) zero zero v h = absurd (h refl)
set-other (w ∷ ws) zero (suc j) v h = refl
set-other (w ∷ ws) (suc i) zero v h = refl
set-other (w ∷ ws) (suc i) (suc j) v h = set-other ws i j v (λ e. h (ap suc e))

-- past the end nothing is set
pub set-past : (ws : List (List ℕ)) (i : ℕ) (v : List ℕ) → slice_get ws i ≡ None → slice_set ws i v ≡ ws
set-past [] i v h = refl
set-past (w ∷ ws) zero v h = absurd (none-some w (sym h))
set-past (w ∷ ws) (suc i) v h = ap (λ l. w ∷ l) (set-past ws i v h)
