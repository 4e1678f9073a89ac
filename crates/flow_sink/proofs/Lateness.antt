-- What a tree with a definition further down in its run defines, tests and hands on.
use Rattle.std.proofs.Common.{◌≡◌, ℕ, true, false, not, nat_eq, nat_lt, ◌||◌, List, [], ◌∷◌, ◌++◌, refl, sym, ap, ◌∙◌, arith}
use Rattle.std.proofs.lemmas.Bool.{and_parts, and_from, and_left, or_parts, or_from, not-true, not_from_false}
use Rattle.std.proofs.lemmas.Bool.Decides.{nat_tests}
use Rattle.nv_base.specs.declared.term.Primitive.{Primitive}
use Rattle.nv_base.specs.Words.{prim_vars}
use Rattle.nv_base.specs.Sets.{is_in, all_different}
use Rattle.nv_base.proofs.Sets.{in-append, other-number}
use Rattle.cps_rules.specs.Simplified.{EachLet}
use Rattle.flow_ir.specs.Tree.{Tree, Let, Read, Write, If, Jump, Halt}
use Rattle.flow_ir.specs.Formed.{defined}
use Rattle.flow_ir.specs.inner.Scoped.{Apart}
use Rattle.flow_ir.proofs.Members.{different-parts, different-join}
use Rattle.flow_sink.proofs.Lowering.{at_if, behind, Once}
use Rattle.flow_sink.specs.Ordered.{tested, handed, rank, waits, against_zero}
use Rattle.flow_sink.specs.inner.Ordering.{late, ordered}

module _ (ts hs : List ℕ) where
  -- ---- tests and jumps

  tested_late : (x : ℕ) (p : Primitive) (t : Tree) → tested (late ts hs x p t) ≡ tested t
  tested_late x p (Let y q t) = at_if (λ r. tested r ≡ tested t) (waits ts hs x (Let y q t)) (Let y q (late ts hs x p t)) (Let x p (Let y q t)) (λ k. tested_late x p t) (λ k. refl)
  tested_late x p (Read m xs a t) = refl
  tested_late x p (Write m a bs t) = refl
  tested_late x p (If c a b t u) = refl
  tested_late x p (Jump l bs) = refl
  tested_late x p (Halt e bs) = refl

  pub same_tested : (t : Tree) → tested (ordered ts hs t) ≡ tested t
  same_tested (Let x p t) = tested_late x p (ordered ts hs t) ∙ same_tested t
  same_tested (Read m xs a t) = same_tested t
  same_tested (Write m a bs t) = same_tested t
  same_tested (If c a b t u) = ap (λ l. against_zero a b ++ (l ++ tested (ordered ts hs u))) (same_tested t) ∙ ap (λ l. against_zero a b ++ (tested t ++ l)) (same_tested u)
  same_tested (Jump l bs) = refl
  same_tested (Halt e bs) = refl

  handed_late : (own x : ℕ) (p : Primitive) (t : Tree) → handed own (late ts hs x p t) ≡ handed own t
  handed_late own x p (Let y q t) = at_if (λ r. handed own r ≡ handed own t) (waits ts hs x (Let y q t)) (Let y q (late ts hs x p t)) (Let x p (Let y q t)) (λ k. handed_late own x p t) (λ k. refl)
  handed_late own x p (Read m xs a t) = refl
  handed_late own x p (Write m a bs t) = refl
  handed_late own x p (If c a b t u) = refl
  handed_late own x p (Jump l bs) = refl
  handed_late own x p (Halt e bs) = refl

  pub same_handed : (own : ℕ) (t : Tree) → handed own (ordered ts hs t) ≡ handed own t
  same_handed own (Let x p t) = handed_late own x p (ordered ts hs t) ∙ same_handed own t
  same_handed own (Read m xs a t) = same_handed own t
  same_handed own (Write m a bs t) = same_handed own t
  same_handed own (If c a b t u) = ap (λ l. l ++ handed own (ordered ts hs u)) (same_handed own t) ∙ ap (λ l. handed own t ++ l) (same_handed own u)
  same_handed own (Jump l bs) = refl
  same_handed own (Halt e bs) = refl

  -- ---- definitions

  defined_late : (x : ℕ) (p : Primitive) (y : ℕ) (t : Tree) → is_in y (defined (late ts hs x p t)) ≡ (nat_eq y x || is_in y (defined t))
  defined_late x p y (Let z q t) =
      at_if (λ r. is_in y (defined r) ≡ (nat_eq y x || is_in y (z ∷ defined t))) (waits ts hs x (Let z q t)) (Let z q (late ts hs x p t)) (Let x p (Let z q t))
      (λ k. behind y (z ∷ []) (defined (late ts hs x p t)) (defined t) (nat_eq y x) (defined_late x p y t)) (λ k. refl)
  defined_late x p y (Read m xs a t) = refl
  defined_late x p y (Write m a bs t) = refl
  defined_late x p y (If c a b t u) = refl
  defined_late x p y (Jump l bs) = refl
  defined_late x p y (Halt e bs) = refl

  pub defined_ordered : (y : ℕ) (t : Tree) → is_in y (defined (ordered ts hs t)) ≡ is_in y (defined t)
  defined_ordered y (Let x p t) = defined_late x p y (ordered ts hs t) ∙ ap (λ v. nat_eq y x || v) (defined_ordered y t)
  defined_ordered y (Read m xs a t) = in-append y xs (defined (ordered ts hs t)) ∙ ap (λ v. is_in y xs || v) (defined_ordered y t) ∙ sym (in-append y xs (defined t))
  defined_ordered y (Write m a bs t) = defined_ordered y t
  defined_ordered y (If c a b t u) =
      in-append y (defined (ordered ts hs t)) (defined (ordered ts hs u)) ∙ ap (λ v. v || is_in y (defined (ordered ts hs u))) (defined_ordered y t) ∙ ap (λ v. is_in y (defined t) || v) (defined_ordered y u) ∙ sym (in-append y (defined t) (defined u))
  defined_ordered y (Jump l bs) = refl
  defined_ordered y (Halt e bs) = refl

  pub apart_ordered : (xs : List ℕ) (t : Tree) → Apart xs (defined t) → Apart xs (defined (ordered ts hs t))
  apart_ordered xs t h = λ y i. defined_ordered y t ∙ h y i

  -- a definition more before the others
  once_more : (x : ℕ) (ds : List ℕ) → Once x ds → all_different (x ∷ ds) ≡ true
  once_more x ds h = and_from (not (is_in x ds)) (all_different ds) (not_from_false (is_in x ds) h.0) h.1

  different_late : (x : ℕ) (p : Primitive) (t : Tree) → Once x (defined t) → all_different (defined (late ts hs x p t)) ≡ true
  different_late x p (Let z q t) h =
      let out = or_parts (nat_eq x z) (is_in x (defined t)) h.0 in
      let once = and_parts (not (is_in z (defined t))) (all_different (defined t)) h.1 in
      let u = late ts hs x p t in
      let gone : is_in z (defined u) ≡ false = defined_late x p z t ∙ or_from (nat_eq z x) (is_in z (defined t)) (other-number x z out.0) (not-true (is_in z (defined t)) once.0) in
      at_if (λ r. all_different (defined r) ≡ true) (waits ts hs x (Let z q t)) (Let z q u) (Let x p (Let z q t)) (λ k. once_more z (defined u) (gone, different_late x p t (out.1, once.1))) (λ k. once_more x (z ∷ defined t) h)
  different_late x p (Read m xs a t) h = once_more x (xs ++ defined t) h
  different_late x p (Write m a bs t) h = once_more x (defined t) h
  different_late x p (If c a b t u) h = once_more x (defined t ++ defined u) h
  different_late x p (Jump l bs) h = once_more x [] h
  different_late x p (Halt e bs) h = once_more x [] h

  pub different_ordered : (t : Tree) → all_different (defined t) ≡ true → all_different (defined (ordered ts hs t)) ≡ true
  different_ordered (Let x p t) h =
      let once = and_parts (not (is_in x (defined t))) (all_different (defined t)) h in different_late x p (ordered ts hs t) (defined_ordered x t ∙ not-true (is_in x (defined t)) once.0, different_ordered t once.1)
  different_ordered (Read m xs a t) h = let once = different-parts xs (defined t) h in different-join xs (defined (ordered ts hs t)) once.0 (different_ordered t once.1) (apart_ordered xs t once.2)
  different_ordered (Write m a bs t) h = different_ordered t h
  different_ordered (If c a b t u) h =
      let once = different-parts (defined t) (defined u) h in
      different-join (defined (ordered ts hs t)) (defined (ordered ts hs u)) (different_ordered t once.0) (different_ordered u once.1) (λ y i. defined_ordered y u ∙ once.2 y (sym (defined_ordered y t) ∙ i))
  different_ordered (Jump l bs) h = refl
  different_ordered (Halt e bs) h = refl

  -- ---- the order

  abbrev Waiting : Tree → Type 0
  Waiting t = EachLet (λ x p rest. waits ts hs x rest ≡ false) t

  not_below : (y x : ℕ) → nat_lt (rank ts hs y) (rank ts hs x) ≡ true → nat_lt (rank ts hs x) (rank ts hs y) ≡ false
  not_below y x e = less (rank ts hs y) (rank ts hs x) e
    where
      less : (a b : ℕ) → nat_lt a b ≡ true → nat_lt b a ≡ false
      less a b h = grind (arith, nat_tests)

  -- what waits for nothing waits for nothing where a definition that stands later was put behind the first
  still_waits : (y x : ℕ) (p : Primitive) (t : Tree) → nat_lt (rank ts hs y) (rank ts hs x) ≡ true → waits ts hs y t ≡ false → waits ts hs y (late ts hs x p t) ≡ false
  still_waits y x p (Let z q t) less h = at_if (λ r. waits ts hs y r ≡ false) (waits ts hs x (Let z q t)) (Let z q (late ts hs x p t)) (Let x p (Let z q t)) (λ k. h) (λ k. and_left (nat_lt (rank ts hs x) (rank ts hs y)) (not (is_in y (prim_vars p))) (not_below y x less))
  still_waits y x p (Read m xs a t) less h = and_left (nat_lt (rank ts hs x) (rank ts hs y)) (not (is_in y (prim_vars p))) (not_below y x less)
  still_waits y x p (Write m a bs t) less h = and_left (nat_lt (rank ts hs x) (rank ts hs y)) (not (is_in y (prim_vars p))) (not_below y x less)
  still_waits y x p (If c a b t u) less h = and_left (nat_lt (rank ts hs x) (rank ts hs y)) (not (is_in y (prim_vars p))) (not_below y x less)
  still_waits y x p (Jump l bs) less h = and_left (nat_lt (rank ts hs x) (rank ts hs y)) (not (is_in y (prim_vars p))) (not_below y x less)
  still_waits y x p (Halt e bs) less h = and_left (nat_lt (rank ts hs x) (rank ts hs y)) (not (is_in y (prim_vars p))) (not_below y x less)

  still_ordered : (x : ℕ) (p : Primitive) (t : Tree) → Waiting t → Waiting (late ts hs x p t)
  still_ordered x p (Let y q t) h =
      at_if Waiting (waits ts hs x (Let y q t)) (Let y q (late ts hs x p t)) (Let x p (Let y q t))
      (λ k. (still_waits y x p t (and_parts (nat_lt (rank ts hs y) (rank ts hs x)) (not (is_in x (prim_vars q))) k).0 h.0, still_ordered x p t h.1)) (λ k. (k, h))
  still_ordered x p (Read m xs a t) h = (refl, h)
  still_ordered x p (Write m a bs t) h = (refl, h)
  still_ordered x p (If c a b t u) h = (refl, h)
  still_ordered x p (Jump l bs) h = (refl, h)
  still_ordered x p (Halt e bs) h = (refl, h)

  pub all_ordered : (t : Tree) → EachLet (λ x p rest. waits ts hs x rest ≡ false) (ordered ts hs t)
  all_ordered (Let x p t) = still_ordered x p (ordered ts hs t) (all_ordered t)
  all_ordered (Read m xs a t) = all_ordered t
  all_ordered (Write m a bs t) = all_ordered t
  all_ordered (If c a b t u) = (all_ordered t, all_ordered u)
  all_ordered (Jump l bs) = tt
  all_ordered (Halt e bs) = tt
