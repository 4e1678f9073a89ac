-- What each turn of a label that takes literals loads.
use Rattle.std.proofs.Common.{◌≡◌, ℕ, zero, suc, ◌+◌, ◌≤◌, Bool, true, false, nat_eq, ◌||◌, List, [], ◌∷◌, ◌++◌, Some, refl, sym, ap, subst, ◌∙◌, length, slice_get, if◌then◌else◌, ⊎_elim, inl, inr, arith}
use Rattle.std.specs.List.{range_with_len}
use Rattle.std.specs.declared.vec.Vec.{Vec}
use Rattle.std.specs.declared.alloc.Global.{Global}
use Rattle.std.proofs.lemmas.Bool.{false≢true}
use Rattle.std.proofs.lemmas.List.{length-append}
use Rattle.std.proofs.lemmas.List.FromFn.{length-range_with_len}
use Rattle.std.proofs.lemmas.Option.{none-some, same_Some}
use Rattle.nv_base.specs.declared.term.Atom.{Atom}
use Rattle.nv_base.specs.declared.term.Atom.TheVariants.{Var, Lit}
use Rattle.nv_base.specs.declared.term.Mem.{Mem}
use Rattle.nv_base.specs.declared.term.Mem.TheVariants.{Sram, Sdram, Scratch}
use Rattle.nv_base.specs.declared.term.Cmp.{Cmp}
use Rattle.nv_base.specs.declared.term.Primitive.{Primitive}
use Rattle.nv_base.specs.declared.term.Primitive.TheVariants.{Same, Una as UnaOf, Bin as BinOf}
use Rattle.nv_base.specs.Sets.{is_in, Within}
use Rattle.flow_ir.specs.Tree.{Tree, Let, Read, Write, If, Jump, Halt, Label}
use Rattle.flow_ir.proofs.Members.{in-left, in-right, in-first}
use Rattle.flow_literals.specs.Turns.{literal, prim_literals, address_literals, is_zero_test, test_literals, goes_back, only, turn_literals, IsHeld}
use Rattle.flow_literals.specs.inner.Hoisted.{held, at, test_at, address_at, prim_at, hoisted, row_of, IsRow, AreRows, IsHoisted, AreHoisted}

-- ---- the literals that a label takes

var_at : (b rest : Bool) (x : ℕ) (a : Atom) → (rest ≡ true → literal a ≡ []) → (b || rest) ≡ true → literal (if b then Var x else a) ≡ []
var_at true rest x a h e = refl
var_at false rest x a h e = h e

held_none : (ws xs : List ℕ) (v : ℕ) → length xs ≡ length ws → is_in v ws ≡ true → literal (held ws xs v) ≡ []
held_none [] xs v len e = absurd (false≢true e)
held_none (w ∷ ws) [] v len e = absurd (omega (arith, len))
held_none (w ∷ ws) (x ∷ xs) v len e = var_at (nat_eq v w) (is_in v ws) x (held ws xs v) (held_none ws xs v (omega (arith, len))) e

both_none : (xs ys : List ℕ) → xs ≡ [] → ys ≡ [] → xs ++ ys ≡ []
both_none xs ys e f = ap (λ l. l ++ ys) e ∙ f

none_either : (b : Bool) (xs : List ℕ) → xs ≡ [] → (if b then [] else xs) ≡ []
none_either true xs e = refl
none_either false xs e = e

first_part : (a b row : List ℕ) → Within (a ++ b) row → Within a row
first_part a b row h = λ y i. h y (in-left y a b i)

second_part : (a b row : List ℕ) → Within (a ++ b) row → Within b row
second_part a b row h = λ y i. h y (in-right y a b i)

-- ---- what is loaded

module _ (heads : ℕ → List ℕ) (own : ℕ → Atom) (row : List ℕ) (none : (v : ℕ) → is_in v row ≡ true → literal (own v) ≡ []) where
  at_none : (a : Atom) → Within (literal a) row → literal (at own a) ≡ []
  at_none (Var x) h = refl
  at_none (Lit v) h = none v (h v (in-first v []))

  test_none_at : (b : Bool) (c : Cmp) (a : Atom) → is_zero_test c a ≡ b → Within (if b then [] else literal a) row → test_literals c (if b then a else at own a) ≡ []
  test_none_at true c a e h = ap (λ b. if b then [] else literal a) e
  test_none_at false c a e h = none_either (is_zero_test c (at own a)) (literal (at own a)) (at_none a h)

  test_none : (c : Cmp) (a : Atom) → Within (test_literals c a) row → test_literals c (test_at own c a) ≡ []
  test_none c a h = test_none_at (is_zero_test c a) c a refl h

  address_none : (m : Mem) (a : Atom) → Within (address_literals m a) row → address_literals m (address_at own m a) ≡ []
  address_none Sram a h = at_none a h
  address_none Sdram a h = at_none a h
  address_none Scratch a h = refl

  prim_none : (p : Primitive) → Within (prim_literals p) row → prim_literals (prim_at own p) ≡ []
  prim_none (Same a) h = at_none a h
  prim_none (UnaOf op a) h = at_none a h
  prim_none (BinOf op a b) h = both_none (literal (at own a)) (literal (at own b)) (at_none a (first_part (literal a) (literal b) row h)) (at_none b (second_part (literal a) (literal b) row h))

  pub same_back : (l : ℕ) (t : Tree) → goes_back l (hoisted heads own t) ≡ goes_back l t
  same_back l (Let x p t) = same_back l t
  same_back l (Read m xs a t) = same_back l t
  same_back l (Write m a bs t) = same_back l t
  same_back l (If c a b t u) = ap (λ z. z || goes_back l (hoisted heads own u)) (same_back l t) ∙ ap (λ z. goes_back l t || z) (same_back l u)
  same_back l (Jump k bs) = refl
  same_back l (Halt e bs) = refl

  only_none : (g h : Bool) (a b a' b' : List ℕ) → (Within a row → a' ≡ []) → (Within b row → b' ≡ []) → Within (only g h a b) row → only g h a' b' ≡ []
  only_none true true a b a' b' p q w = refl
  only_none true false a b a' b' p q w = p w
  only_none false true a b a' b' p q w = q w
  only_none false false a b a' b' p q w = q w

  pub turn_none : (l : ℕ) (t : Tree) → Within (turn_literals l t) row → turn_literals l (hoisted heads own t) ≡ []
  turn_none l (Let x p t) w =
      let a = prim_literals p in
      let b = turn_literals l t in
      both_none (prim_literals (prim_at own p)) (turn_literals l (hoisted heads own t)) (prim_none p (first_part a b row w)) (turn_none l t (second_part a b row w))
  turn_none l (Read m xs a t) w =
      let c = address_literals m a in
      let d = turn_literals l t in
      both_none (address_literals m (address_at own m a)) (turn_literals l (hoisted heads own t)) (address_none m a (first_part c d row w)) (turn_none l t (second_part c d row w))
  turn_none l (Write m a bs t) w =
      let c = address_literals m a in
      let d = turn_literals l t in
      both_none (address_literals m (address_at own m a)) (turn_literals l (hoisted heads own t)) (address_none m a (first_part c d row w)) (turn_none l t (second_part c d row w))
  turn_none l (If c a b t u) w =
      let t' = hoisted heads own t in
      let u' = hoisted heads own u in
      let x = test_literals c a in
      let y = test_literals c b in
      let rest = only (goes_back l t) (goes_back l u) (turn_literals l t) (turn_literals l u) in
      let front = first_part (x ++ y) rest row w in
      let tests = both_none (test_literals c (test_at own c a)) (test_literals c (test_at own c b)) (test_none c a (first_part x y row front)) (test_none c b (second_part x y row front)) in
      let arms : only (goes_back l t') (goes_back l u') (turn_literals l t') (turn_literals l u') ≡ [] =
      ap (λ z. only z (goes_back l u') (turn_literals l t') (turn_literals l u')) (same_back l t) ∙ ap (λ z. only (goes_back l t) z (turn_literals l t') (turn_literals l u')) (same_back l u)
      ∙ only_none (goes_back l t) (goes_back l u) (turn_literals l t) (turn_literals l u) (turn_literals l t') (turn_literals l u') (turn_none l t) (turn_none l u) (second_part (x ++ y) rest row w) in
      both_none (test_literals c (test_at own c a) ++ test_literals c (test_at own c b)) (only (goes_back l t') (goes_back l u') (turn_literals l t') (turn_literals l u')) tests arms
  turn_none l (Jump k bs) w = refl
  turn_none l (Halt e bs) w = refl

-- ---- labels

module _ (literals params : ℕ) (heads : ℕ → List ℕ) where
  label_held : (i : ℕ) (l m : Label) (row : Vec ℕ Global) → IsHoisted heads i l m → heads i ≡ row.items → IsRow literals params i l row → 1 ≤ i → IsHeld literals params i l m
  label_held i l m row h same r one =
      let n = length (heads i) in
      let names = range_with_len h.base n in
      let own = held (heads i) names in
      let none : (v : ℕ) → is_in v (heads i) ≡ true → literal (own v) ≡ [] = λ v e. held_none (heads i) names v (length-range_with_len h.base n) e in
      let len : length m.params ≡ length row.items + length l.params = ap length h.params ∙ length-append names l.params ∙ ap (λ z. z + length l.params) (length-range_with_len h.base n ∙ ap length same) in
      λ back.
      let before : goes_back i l.body ≡ true = sym (ap (goes_back i) h.body ∙ same_back heads own (heads i) none i l.body) ∙ back in
      ⊎_elim (λ le. inl (omega (arith, le, len)))
      (⊎_elim (λ le. inr (inl (omega (arith, le, len))))
      (λ within. inr (inr (ap (turn_literals i) h.body ∙ turn_none heads own (heads i) none i l.body (subst (Within (turn_literals i l.body)) (sym same) within))))) (r.held one before)

  pub all_held : (i : ℕ) (ls ms : List Label) (rs : List (Vec ℕ Global)) → AreHoisted heads i ls ms → AreRows literals params i ls rs → ((j k : ℕ) → k ≡ i + j → heads k ≡ row_of (slice_get rs j)) → (j k : ℕ) (l m : Label) → k ≡ i + j → 1 ≤ k → slice_get ls j ≡ Some l → slice_get ms j ≡ Some m → IsHeld literals params k l m
  all_held i [] [] rs h r rowat j k l m e one was found = absurd (none-some m found)
  all_held i [] (n ∷ ms) rs h r rowat j k l m e one was found = absurd h
  all_held i (o ∷ ls) [] rs h r rowat j k l m e one was found = absurd h
  all_held i (o ∷ ls) (n ∷ ms) [] h r rowat j k l m e one was found = absurd r
  all_held i (o ∷ ls) (n ∷ ms) (row ∷ rs) h r rowat zero k l m e one was found =
      let here : i ≡ k = omega arith in
      let old : o ≡ l = same_Some o l was in
      let new : n ≡ m = same_Some n m found in
      subst (λ z. IsHeld literals params k z m) old (subst (λ z. IsHeld literals params k o z) new (subst (λ z. IsHeld literals params z o n) here (label_held i o n row h.0 (rowat 0 i (omega arith)) r.0 (omega arith))))
  all_held i (o ∷ ls) (n ∷ ms) (row ∷ rs) h r rowat (suc j) k l m e one was found = all_held (suc i) ls ms rs h.1 r.1 (λ j' k' e'. rowat (suc j') k' (omega arith)) j k l m (omega arith) one was found
