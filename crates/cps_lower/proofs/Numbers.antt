-- The variables and the labels of a term: what its code defines, and the numbers from the next label on.
use Rattle.std.proofs.Common.{◌≡◌, ℕ, ◌+◌, ◌≤◌, ◌<◌, Bool, true, false, not, nat_eq, List, [], ◌∷◌, ◌++◌, Option, Some, None, refl, sym, ap, subst, ◌∙◌, ◌⊎◌, ⊎_elim, arith, slice_get}
use Rattle.std.proofs.lemmas.Bool.{eq-eqb, eqb-true, and_from, and_parts, or_cases, or_left, or_right, or_from, not-true, not_from_false, false≢true, false_from_ne_true}
use Rattle.std.proofs.lemmas.List.{append-nil}
use Rattle.nv_base.specs.Sets.{is_in, all_different}
use Rattle.nv_base.proofs.Sets.{in-append}
use Rattle.nv_base.specs.declared.term.Atom.{Atom}
use Rattle.flat_ir.specs.declared.flat.Flat.{Flat}
use Rattle.flat_ir.specs.declared.flat.Flat.TheVariants.{Let', Fetch', Store', If', Bind', Call, Raise, Try', Give}
use Rattle.flat_ir.specs.declared.flat.FlatFun.{FlatFun}
use Rattle.flat_ir.specs.Formed as flat
use Rattle.cps_ir.specs.Meaning.{handler_of}
use Rattle.cps_ir.specs.Formed.{defined, made}
use Rattle.cps_ir.specs.Term.{Handler}
use Rattle.cps_lower.specs.inner.Lowered.{labels, give_term, raise_term, call_term, is_earlier, lowered}

-- ---- lists of which each stands once

pub in-parts : (x : ℕ) (a b : List ℕ) → is_in x (a ++ b) ≡ true → (is_in x a ≡ true) ⊎ (is_in x b ≡ true)
in-parts x a b e = or_cases (is_in x a) (is_in x b) (sym (in-append x a b) ∙ e)

pub different-join : (a b : List ℕ) → all_different a ≡ true → all_different b ≡ true → ((x : ℕ) → is_in x a ≡ true → is_in x b ≡ true → ⊥) → all_different (a ++ b) ≡ true
different-join [] b p q apart = q
different-join (x ∷ a) b p q apart =
    let parts = and_parts (not (is_in x a)) (all_different a) p in
    let here : is_in x b ≡ false = false_from_ne_true (is_in x b) (λ e. apart x (or_left (nat_eq x x) (is_in x a) (eq-eqb x x refl)) e) in
    and_from (not (is_in x (a ++ b))) (all_different (a ++ b)) (not_from_false (is_in x (a ++ b)) (in-append x a b ∙ or_from (is_in x a) (is_in x b) (not-true (is_in x a) parts.0) here))
    (different-join a b parts.1 q (λ y e f. apart y (or_right (nat_eq y x) (is_in y a) e) f))

-- ---- variables

give_defined : (k : Option ℕ) (bs : List Atom) → defined (give_term k bs) ≡ []
give_defined (Some l) bs = refl
give_defined None bs = refl

raise_defined : (o : Option ℕ) (e : ℕ) (bs : List Atom) → defined (raise_term o e bs) ≡ []
raise_defined (Some l) e bs = refl
raise_defined None e bs = refl

call_defined : (earlier : Bool) (f : ℕ) (bs : List Atom) (k : Option ℕ) (hs : List Handler) → defined (call_term earlier f bs k hs) ≡ []
call_defined earlier f bs (Some l) hs = refl
call_defined true f bs None hs = refl
call_defined false f bs None hs = refl

-- a term defines the variables of its code, in the same order
pub lowered_defined : (flats : List FlatFun) (own : ℕ) (t : Flat) (n : ℕ) (k : Option ℕ) (hs : List Handler) → defined (lowered flats own t n k hs) ≡ flat.defined t
lowered_defined flats own (Let' x a q t) n k hs = ap (λ l. x ∷ l) (lowered_defined flats own t n k hs)
lowered_defined flats own (Fetch' o xs a q t) n k hs = ap (λ l. xs.items ++ l) (lowered_defined flats own t n k hs)
lowered_defined flats own (Store' o a bs q t) n k hs = lowered_defined flats own t n k hs
lowered_defined flats own (If' c a b q t r u) n k hs =
    ap (λ l. l ++ defined (lowered flats own u (n + labels t) k hs)) (lowered_defined flats own t n k hs) ∙ ap (λ l. flat.defined t ++ l) (lowered_defined flats own u (n + labels t) k hs)
lowered_defined flats own (Bind' xs q t r u) n k hs =
    let v = lowered flats own u (n + 1 + labels t) k hs in
    ap (λ l. l ++ ((xs.items ++ defined v) ++ [])) (lowered_defined flats own t (n + 1) (Some n) hs) ∙ ap (λ l. flat.defined t ++ l) (append-nil (xs.items ++ defined v) ∙ ap (λ l. xs.items ++ l) (lowered_defined flats own u (n + 1 + labels t) k hs))
lowered_defined flats own (Call f bs) n k hs = call_defined (is_earlier own (slice_get flats f)) f bs.items k hs
lowered_defined flats own (Raise e bs) n k hs = raise_defined (handler_of e hs) e bs.items
lowered_defined flats own (Try' q t e xs r u) n k hs =
    let v = lowered flats own u (n + 1 + labels t) k hs in
    ap (λ l. l ++ ((xs.items ++ defined v) ++ [])) (lowered_defined flats own t (n + 1) k ((e, n) ∷ hs)) ∙ ap (λ l. flat.defined t ++ l) (append-nil (xs.items ++ defined v) ∙ ap (λ l. xs.items ++ l) (lowered_defined flats own u (n + 1 + labels t) k hs))
lowered_defined flats own (Give bs) n k hs = give_defined k bs.items

-- ---- labels

-- each number stands once, and lies from n on, below m
pub record AreFrom (n m : ℕ) (ls : List ℕ) : Type 0 where
  pub different : all_different ls ≡ true
  pub least : (x : ℕ) → is_in x ls ≡ true → n ≤ x
  pub below : (x : ℕ) → is_in x ls ≡ true → x < m

from_none : (n m : ℕ) (ls : List ℕ) → ls ≡ [] → AreFrom n m ls
from_none n m ls e = subst (AreFrom n m) (sym e) (record { different = refl; least = λ x p. absurd (false≢true p); below = λ x p. absurd (false≢true p) })

from_wider : (n n' m m' : ℕ) (ls : List ℕ) → n' ≤ n → m ≤ m' → AreFrom n m ls → AreFrom n' m' ls
from_wider n n' m m' ls le ge h = record {
  different = h.different;
  least = λ x p. let l = h.least x p in omega arith;
  below = λ x p. let l = h.below x p in omega arith;
}

-- those of two stretches
from_both : (n i m : ℕ) (a b : List ℕ) → n ≤ i → i ≤ m → AreFrom n i a → AreFrom i m b → AreFrom n m (a ++ b)
from_both n i m a b le ge p q = record {
  different = different-join a b p.different q.different (λ x e f. let l : x < i = p.below x e in let g : i ≤ x = q.least x f in absurd (omega arith));
  least = λ x e. ⊎_elim (λ (f : is_in x a ≡ true). p.least x f) (λ (f : is_in x b ≡ true). let l : i ≤ x = q.least x f in (let r : n ≤ x = omega arith in r)) (in-parts x a b e);
  below = λ x e. ⊎_elim (λ (f : is_in x a ≡ true). let l : x < i = p.below x f in (let r : x < m = omega arith in r)) (λ (f : is_in x b ≡ true). q.below x f) (in-parts x a b e);
}

-- the first number, and those of two stretches after it: the label of a Fix stands between the term round which it is made and its body
from_fix : (n i m : ℕ) (a b : List ℕ) → n + 1 ≤ i → i ≤ m → AreFrom (n + 1) i a → AreFrom i m b → AreFrom n m (a ++ ((n ∷ b) ++ []))
from_fix n i m a b le ge p q =
    let fresh : is_in n b ≡ false = false_from_ne_true (is_in n b) (λ e. let l : i ≤ n = q.least n e in absurd (omega arith)) in
    subst (λ l. AreFrom n m (a ++ l)) (sym (append-nil (n ∷ b)))
    (record {
      different =
          different-join a (n ∷ b) p.different (and_from (not (is_in n b)) (all_different b) (not_from_false (is_in n b) fresh) q.different)
          (λ x e f. let g : n + 1 ≤ x = p.least x e in let l : x < i = p.below x e in
          ⊎_elim (λ (h : nat_eq x n ≡ true). let same : x ≡ n = eqb-true x n h in absurd (omega arith)) (λ (h : is_in x b ≡ true). let far : i ≤ x = q.least x h in absurd (omega arith)) (or_cases (nat_eq x n) (is_in x b) f));
      least = λ x e.
          ⊎_elim (λ (f : is_in x a ≡ true). let g : n + 1 ≤ x = p.least x f in (let r : n ≤ x = omega arith in r))
          (λ (f : is_in x (n ∷ b) ≡ true). ⊎_elim (λ (h : nat_eq x n ≡ true). let same : x ≡ n = eqb-true x n h in (let r : n ≤ x = omega arith in r)) (λ (h : is_in x b ≡ true). let far : i ≤ x = q.least x h in (let r : n ≤ x = omega arith in r)) (or_cases (nat_eq x n) (is_in x b) f))
          (in-parts x a (n ∷ b) e);
      below = λ x e.
          ⊎_elim (λ (f : is_in x a ≡ true). let g : x < i = p.below x f in (let r : x < m = omega arith in r))
          (λ (f : is_in x (n ∷ b) ≡ true). ⊎_elim (λ (h : nat_eq x n ≡ true). let same : x ≡ n = eqb-true x n h in (let r : x < m = omega arith in r)) (λ (h : is_in x b ≡ true). q.below x h) (or_cases (nat_eq x n) (is_in x b) f))
          (in-parts x a (n ∷ b) e);
    })

give_made : (k : Option ℕ) (bs : List Atom) → made (give_term k bs) ≡ []
give_made (Some l) bs = refl
give_made None bs = refl

raise_made : (o : Option ℕ) (e : ℕ) (bs : List Atom) → made (raise_term o e bs) ≡ []
raise_made (Some l) e bs = refl
raise_made None e bs = refl

call_made : (earlier : Bool) (f : ℕ) (bs : List Atom) (k : Option ℕ) (hs : List Handler) → made (call_term earlier f bs k hs) ≡ []
call_made earlier f bs (Some l) hs = refl
call_made true f bs None hs = refl
call_made false f bs None hs = refl

-- a term makes the labels from the next one on
pub lowered_made : (flats : List FlatFun) (own : ℕ) (t : Flat) (n : ℕ) (k : Option ℕ) (hs : List Handler) → AreFrom n (n + labels t) (made (lowered flats own t n k hs))
lowered_made flats own (Let' x a q t) n k hs = lowered_made flats own t n k hs
lowered_made flats own (Fetch' o xs a q t) n k hs = lowered_made flats own t n k hs
lowered_made flats own (Store' o a bs q t) n k hs = lowered_made flats own t n k hs
lowered_made flats own (If' c a b q t r u) n k hs =
    from_both n (n + labels t) (n + (labels t + labels u)) _ _ (omega arith) (omega arith) (lowered_made flats own t n k hs) (from_wider (n + labels t) (n + labels t) (n + labels t + labels u) (n + (labels t + labels u)) _ (omega arith) (omega arith) (lowered_made flats own u (n + labels t) k hs))
lowered_made flats own (Bind' xs q t r u) n k hs =
    from_fix n (n + 1 + labels t) (n + (1 + labels t + labels u)) _ _ (omega arith) (omega arith) (lowered_made flats own t (n + 1) (Some n) hs)
    (from_wider (n + 1 + labels t) (n + 1 + labels t) (n + 1 + labels t + labels u) (n + (1 + labels t + labels u)) _ (omega arith) (omega arith) (lowered_made flats own u (n + 1 + labels t) k hs))
lowered_made flats own (Call f bs) n k hs = from_none n (n + 0) _ (call_made (is_earlier own (slice_get flats f)) f bs.items k hs)
lowered_made flats own (Raise e bs) n k hs = from_none n (n + 0) _ (raise_made (handler_of e hs) e bs.items)
lowered_made flats own (Try' q t e xs r u) n k hs =
    from_fix n (n + 1 + labels t) (n + (1 + labels t + labels u)) _ _ (omega arith) (omega arith) (lowered_made flats own t (n + 1) k ((e, n) ∷ hs))
    (from_wider (n + 1 + labels t) (n + 1 + labels t) (n + 1 + labels t + labels u) (n + (1 + labels t + labels u)) _ (omega arith) (omega arith) (lowered_made flats own u (n + 1 + labels t) k hs))
lowered_made flats own (Give bs) n k hs = from_none n (n + 0) _ (give_made k bs.items)
