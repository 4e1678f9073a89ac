-- Labels that are noted are led to.
use Rattle.std.proofs.Common.{◌≡◌, ℕ, ◌≤◌, inl, inr, Bool, true, false, List, [], ◌∷◌, ◌++◌, length, set, Some, slice_get, All, refl, sym, ap, ◌∙◌, subst, ⊎_elim, append_assoc, append-nil, arith}
use Rattle.std.proofs.lemmas.Bool.{cases_eq, false≢true}
use Rattle.std.proofs.lemmas.List.{get_or-set_other, length-set}
use Rattle.std.proofs.lemmas.List.Elements.{All-append, All-nil, All-cons, All-weaker, All-get_or}
use Rattle.nv_base.specs.declared.term.Atom.{Atom}
use Rattle.nv_base.specs.declared.term.Cmp.{Cmp}
use Rattle.nv_base.specs.declared.term.Mem.{Mem}
use Rattle.nv_base.specs.declared.term.Primitive.{Primitive}
use Rattle.flow_ir.specs.Tree.{Label}
use Rattle.flow_ir.specs.View.{tree_view}
use Rattle.flow_ir.specs.declared.flow.Tree.{Tree, size-Tree}
use Rattle.flow_ir.specs.declared.flow.Tree.TheVariants.{Let', Read', Write', If', Jump as Jump'}
use Rattle.flow_ir.specs.declared.flow.Tree.TheViews.{deep-Let', deep-Read', deep-Write', deep-If'}
use Rattle.flow_ir.specs.Reachable.{GoesTo, IsReachable, first, jumped}
use Rattle.flow_ir.specs.inner.Pruned.{is_out, Noted, AreLed}

pub noted-none : (P : ℕ → Type 0) (a : List Bool) (p : List ℕ) → Noted P a a p p
noted-none P a p = record { same = refl; noted = λ i h. inl h; added = []; waiting = sym (append-nil p); each = All-nil P }

pub noted-one : (a : List Bool) (l : ℕ) (p : List ℕ) → Noted (λ i. i ≡ l) a (set a l false) p (p ++ l ∷ [])
noted-one a l p = record {
  same = length-set a l false;
  noted = λ i h. ⊎_elim (λ (e : i ≡ l). inr e) (λ (ne : i ≡ l → ⊥). inl (sym (get_or-set_other a l i false false ne) ∙ h)) (cases_eq i l);
  added = l ∷ [];
  waiting = refl;
  each = All-cons (λ i. i ≡ l) l [] refl (All-nil (λ i. i ≡ l));
}

pub noted-both : (P : ℕ → Type 0) (a b c : List Bool) (p q r : List ℕ) → Noted P a b p q → Noted P b c q r → Noted P a c p r
noted-both P a b c p q r h k = record {
  same = k.same ∙ h.same;
  noted = λ i there. ⊎_elim (λ (before : is_out b i ≡ false). h.noted i before) (λ (x : P i). inr x) (k.noted i there);
  added = h.added ++ k.added;
  waiting = k.waiting ∙ ap (λ (x : List ℕ). x ++ k.added) h.waiting ∙ append_assoc p h.added k.added;
  each = All-append P h.added k.added h.each k.each;
}

pub noted-weaker : (P Q : ℕ → Type 0) (a b : List Bool) (p q : List ℕ) → ((i : ℕ) → P i → Q i) → Noted P a b p q → Noted Q a b p q
noted-weaker P Q a b p q f h = record {
  same = h.same;
  noted = λ i there. ⊎_elim (λ (before : is_out a i ≡ false). inl before) (λ (x : P i). inr (f i x)) (h.noted i there);
  added = h.added;
  waiting = h.waiting;
  each = All-weaker P Q f h.added h.each;
}

-- all that a label of a list of which each is led to goes on to
abbrev pub GoesFrom : List Label → ℕ → ℕ → Type 0
GoesFrom ls l i = (from : Label) × (slice_get ls l ≡ Some from) × GoesTo from.body i

-- where all are left out, each that isn't there is
pub led-begun : (ls : List Label) (out : List Bool) → length out ≡ length ls → All (λ b. b ≡ true) out → AreLed ls out
led-begun ls out count h = record {
  all = count;
  led = λ i lt there. absurd (false≢true (sym there ∙ All-get_or (λ b. b ≡ true) out i false (let c = count in omega (arith, c, lt)) h));
}

pub led-noted : (ls : List Label) (P : ℕ → Type 0) (out new : List Bool) (before after : List ℕ) → ((i : ℕ) → P i → IsReachable ls i) → AreLed ls out → All (IsReachable ls) before → Noted P out new before after → AreLed ls new × All (IsReachable ls) after
led-noted ls P out new before after f h waiting k = (
  record { all = k.same ∙ h.all; led = λ i lt there. ⊎_elim (λ (was : is_out out i ≡ false). h.led i lt was) (λ (x : P i). f i x) (k.noted i there) },
  subst (All (IsReachable ls)) (sym k.waiting) (All-append (IsReachable ls) before k.added waiting (All-weaker P (IsReachable ls) f k.added k.each)),
)

pub led-first : (ls : List Label) (i : ℕ) → i ≡ 0 → IsReachable ls i
led-first ls i e = subst (IsReachable ls) (sym e) first

pub led-from : (ls : List Label) (l : ℕ) → IsReachable ls l → (i : ℕ) → GoesFrom ls l i → IsReachable ls i
led-from ls l led i h = jumped l i h.0 led h.1 h.2

-- ---- the spine of a tree: what its rest goes on to, it goes on to

pub record Passing (t cur : Tree) : Type 0 where
  pub goes : (i : ℕ) → GoesTo (tree_view cur) i → GoesTo (tree_view t) i
  pub size : size-Tree cur ≤ size-Tree t

pass-on : {t cur : Tree} (node r rest : Tree) → Passing t cur → cur ≡ node → rest ≡ r → ((i : ℕ) → GoesTo (tree_view r) i → GoesTo (tree_view node) i) → size-Tree r ≤ size-Tree node → Passing t rest
pass-on {cur = cur} node r rest on is e goes le = record {
  goes = λ i h. on.goes i (subst (λ (u : Tree). GoesTo (tree_view u) i) (sym is) (goes i (subst (λ (u : Tree). GoesTo (tree_view u) i) e h)));
  size = let a = ap size-Tree is in let b = ap size-Tree e in let c = on.size in omega (arith, a, b, c, le);
}

pub pass-let : {t cur : Tree} (x : ℕ) (p : Primitive) (q : _) (r rest : Tree) → Passing t cur → cur ≡ Let' x p q r → rest ≡ r → Passing t rest
pass-let x p q r rest on is e = pass-on (Let' x p q r) r rest on is e (λ i h. h) (omega (arith, deep-Let' x p q r))

pub pass-read : {t cur : Tree} (m : Mem) (xs : _) (a : Atom) (q : _) (r rest : Tree) → Passing t cur → cur ≡ Read' m xs a q r → rest ≡ r → Passing t rest
pass-read m xs a q r rest on is e = pass-on (Read' m xs a q r) r rest on is e (λ i h. h) (omega (arith, deep-Read' m xs a q r))

pub pass-write : {t cur : Tree} (m : Mem) (a : Atom) (bs : _) (q : _) (r rest : Tree) → Passing t cur → cur ≡ Write' m a bs q r → rest ≡ r → Passing t rest
pass-write m a bs q r rest on is e = pass-on (Write' m a bs q r) r rest on is e (λ i h. h) (omega (arith, deep-Write' m a bs q r))

pub pass-if : {t cur : Tree} (c : Cmp) (a b : Atom) (q q' : _) (f r rest : Tree) → Passing t cur → cur ≡ If' c a b q f q' r → rest ≡ r → Passing t rest
pass-if c a b q q' f r rest on is e = pass-on (If' c a b q f q' r) r rest on is e (λ i h. inr h) (omega (arith, deep-If' c a b q f q' r))

pub pass-first : {t cur : Tree} (c : Cmp) (a b : Atom) (q q' : _) (f r part : Tree) → Passing t cur → cur ≡ If' c a b q f q' r → part ≡ f → (i : ℕ) → GoesTo (tree_view part) i → GoesTo (tree_view t) i
pass-first {cur = cur} c a b q q' f r part on is e i h = on.goes i (subst (λ (u : Tree). GoesTo (tree_view u) i) (sym is) (inl (subst (λ (u : Tree). GoesTo (tree_view u) i) e h)))

pub pass-jump : {t cur : Tree} (l : ℕ) (bs : _) → Passing t cur → cur ≡ Jump' l bs → (i : ℕ) → i ≡ l → GoesTo (tree_view t) i
pass-jump {cur = cur} l bs on is i e = on.goes i (subst (λ (u : Tree). GoesTo (tree_view u) i) (sym is) e)
