-- A contracted flow stays contracted, and each label led to.
use Rattle.std.proofs.Common.{◌≡◌, ℕ, zero, suc, ◌+◌, true, ◌&&◌, not, List, [], ◌∷◌, Some, refl, sym, ap, subst, ◌∙◌, length, slice_get, All, arith, inl, inr}
use Rattle.std.proofs.lemmas.List.Elements.{All-nil, All-cons, All-head, All-tail}
use Rattle.std.proofs.lemmas.Option.{none-some, same_Some}
use Rattle.flow_ir.specs.Tree.{Tree, Let, Read, Write, If, Jump, Halt, Label}
use Rattle.flow_ir.specs.Reachable.{GoesTo, IsReachable, first, jumped, AreReachable}
use Rattle.flow_merge.specs.Contracted.{jumps_to, all_jumps_to, is_bare, is_literal, is_undecided, AreMerged}
use Rattle.flow_merge.specs.inner.Pruned.{pruned, ArePruned}

module _ (labels : List Label) (gone : ℕ → List ℕ) where
  -- ---- trees

  same_jumps : (l : ℕ) (t : Tree) → jumps_to l (pruned labels gone t) ≡ jumps_to l t
  same_jumps l (Let x p t) = same_jumps l t
  same_jumps l (Read m xs a t) = same_jumps l t
  same_jumps l (Write m a bs t) = same_jumps l t
  same_jumps l (If c a b t u) = ap (λ n. n + jumps_to l (pruned labels gone u)) (same_jumps l t) ∙ ap (λ n. jumps_to l t + n) (same_jumps l u)
  same_jumps l (Jump k bs) = refl
  same_jumps l (Halt e bs) = refl

  same_bare : (l : ℕ) (t : Tree) → is_bare l (pruned labels gone t) ≡ is_bare l t
  same_bare l (Let x p t) = refl
  same_bare l (Read m xs a t) = refl
  same_bare l (Write m a bs t) = refl
  same_bare l (If c a b t u) = refl
  same_bare l (Jump k bs) = refl
  same_bare l (Halt e bs) = refl

  same_undecided : (t : Tree) → is_undecided (pruned labels gone t) ≡ is_undecided t
  same_undecided (Let x p t) = same_undecided t
  same_undecided (Read m xs a t) = same_undecided t
  same_undecided (Write m a bs t) = same_undecided t
  same_undecided (If c a b t u) =
      ap (λ v. not (is_literal a && is_literal b) && (v && is_undecided (pruned labels gone u))) (same_undecided t) ∙ ap (λ v. not (is_literal a && is_literal b) && (is_undecided t && v)) (same_undecided u)
  same_undecided (Jump l bs) = refl
  same_undecided (Halt e bs) = refl

  -- ---- labels

  all_jumps : (l i : ℕ) (ls ms : List Label) → ArePruned labels gone i ls ms → all_jumps_to l ms ≡ all_jumps_to l ls
  all_jumps l i [] [] a = refl
  all_jumps l i [] (m ∷ ms) a = absurd a
  all_jumps l i (k ∷ ls) [] a = absurd a
  all_jumps l i (k ∷ ls) (m ∷ ms) a = ap (λ n. n + all_jumps_to l ms) (ap (jumps_to l) a.0.body ∙ same_jumps l k.body) ∙ ap (λ n. jumps_to l k.body + n) (all_jumps l (suc i) ls ms a.1)

  as_many : (i : ℕ) (ls ms : List Label) → ArePruned labels gone i ls ms → length ms ≡ length ls
  as_many i [] [] a = refl
  as_many i [] (m ∷ ms) a = absurd a
  as_many i (k ∷ ls) [] a = absurd a
  as_many i (k ∷ ls) (m ∷ ms) a = ap suc (as_many (suc i) ls ms a.1)

  bare_at : (n i j : ℕ) (ls ms : List Label) (m : Label) → ArePruned labels gone i ls ms → slice_get ms j ≡ Some m → (k : Label) × (slice_get ls j ≡ Some k) × (is_bare n m.body ≡ is_bare n k.body)
  bare_at n i j [] [] m a at = absurd (none-some m at)
  bare_at n i j [] (k ∷ ms) m a at = absurd a
  bare_at n i j (l ∷ ls) [] m a at = absurd a
  bare_at n i zero (l ∷ ls) (k ∷ ms) m a at = (l, refl, sym (ap (λ (z : Label). is_bare n z.body) (same_Some k m at)) ∙ ap (is_bare n) a.0.body ∙ same_bare n l.body)
  bare_at n i (suc j) (l ∷ ls) (k ∷ ms) m a at = bare_at n (suc i) j ls ms m a.1 at

  all_undecided : (i : ℕ) (ls ms : List Label) → ArePruned labels gone i ls ms → All (λ m. is_undecided m.body ≡ true) ls → All (λ m. is_undecided m.body ≡ true) ms
  all_undecided i [] [] a h = All-nil (λ m. is_undecided m.body ≡ true)
  all_undecided i [] (m ∷ ms) a h = absurd a
  all_undecided i (k ∷ ls) [] a h = absurd a
  all_undecided i (k ∷ ls) (m ∷ ms) a h =
      All-cons (λ n. is_undecided n.body ≡ true) m ms (ap is_undecided a.0.body ∙ same_undecided k.body ∙ All-head (λ n. is_undecided n.body ≡ true) k ls h) (all_undecided (suc i) ls ms a.1 (All-tail (λ n. is_undecided n.body ≡ true) k ls h))

  -- ---- jumps

  goes_still : (t : Tree) (n : ℕ) → GoesTo t n → GoesTo (pruned labels gone t) n
  goes_still (Let x p t) n h = goes_still t n h
  goes_still (Read m xs a t) n h = goes_still t n h
  goes_still (Write m a bs t) n h = goes_still t n h
  goes_still (If c a b t u) n (inl h) = inl (goes_still t n h)
  goes_still (If c a b t u) n (inr h) = inr (goes_still u n h)
  goes_still (Jump l bs) n h = h
  goes_still (Halt e bs) n h = absurd h

  there_still : (i j : ℕ) (ls ms : List Label) (l : Label) → ArePruned labels gone i ls ms → slice_get ls j ≡ Some l → (m : Label) × (slice_get ms j ≡ Some m) × (m.body ≡ pruned labels gone l.body)
  there_still i j [] [] l a at = absurd (none-some l at)
  there_still i j [] (m ∷ ms) l a at = absurd a
  there_still i j (k ∷ ls) [] l a at = absurd a
  there_still i zero (k ∷ ls) (m ∷ ms) l a at = (m, refl, a.0.body ∙ ap (λ (z : Label). pruned labels gone z.body) (same_Some k l at))
  there_still i (suc j) (k ∷ ls) (m ∷ ms) l a at = there_still (suc i) j ls ms l a.1 at

  led_still : (ls ms : List Label) → ArePruned labels gone 0 ls ms → (l : ℕ) → IsReachable ls l → IsReachable ms l
  led_still ls ms a l first = first
  led_still ls ms a n (jumped l m from led at goes) =
      let here = there_still 0 l ls ms from a at in
      jumped l m here.0 (led_still ls ms a l led) here.1 (subst (λ (t : Tree). GoesTo t m) (sym here.2) (goes_still from.body m goes))

pub still_led : (labels news : List Label) (gone : ℕ → List ℕ) → ArePruned labels gone 0 labels news → AreReachable labels → AreReachable news
still_led labels news gone a h = λ l lt. let many = as_many labels gone 0 labels news a in led_still labels gone labels news a l (h l (omega (arith, many, lt)))

pub still_contracted : (labels news : List Label) (gone : ℕ → List ℕ) → ArePruned labels gone 0 labels news → AreMerged labels → AreMerged news
still_contracted labels news gone a h = record {
  shared = λ l one lt. let same = all_jumps labels gone l 0 labels news a in let many = as_many labels gone 0 labels news a in let two = h.shared l one (omega (arith, many, lt)) in omega (arith, same, two);
  busy = λ l m one at. let k = bare_at labels gone l 0 l labels news m a at in k.2 ∙ h.busy l k.0 one k.1;
  undecided = all_undecided labels gone 0 labels news a h.undecided;
}
