-- A tree with parameters in the place of literals is formed.
use Rattle.std.proofs.Common.{◌≡◌, ℕ, true, nat_le, ◌&&◌, List, [], ◌∷◌, ◌++◌, map, refl, ap, ◌∙◌, length, slice_get}
use Rattle.std.proofs.lemmas.Bool.{and_parts, and_from}
use Rattle.nv_base.specs.declared.term.Atom.{Atom}
use Rattle.nv_base.specs.Sets.{Within}
use Rattle.nv_base.specs.Access.{is_known, all_known, is_primitive, can_move, is_address}
use Rattle.nv_base.proofs.Operands.{atom-more}
use Rattle.nv_base.proofs.Sets.{within-behind_same, within-right}
use Rattle.flow_ir.specs.Formed.{defined, is_formed, takes_as_many}
use Rattle.flow_ir.specs.Tree.{Tree, Let, Read, Write, If, Jump, Halt, Label}
use Rattle.flow_literals.specs.inner.Hoisted.{hoisted, test_at, address_at, prim_at}
use Rattle.flow_literals.proofs.Standing.{all_still, test_known, address_known, prim_at_known, handed_known, still_address}

pub same_defined : (heads : ℕ → List ℕ) (own : ℕ → Atom) (t : Tree) → defined (hoisted heads own t) ≡ defined t
same_defined heads own (Let x p t) = ap (λ l. x ∷ l) (same_defined heads own t)
same_defined heads own (Read m xs a t) = ap (λ l. xs ++ l) (same_defined heads own t)
same_defined heads own (Write m a bs t) = same_defined heads own t
same_defined heads own (If c a b t u) = ap (λ l. l ++ defined (hoisted heads own u)) (same_defined heads own t) ∙ ap (λ l. defined t ++ l) (same_defined heads own u)
same_defined heads own (Jump l bs) = refl
same_defined heads own (Halt e bs) = refl

module _ (labels news : List Label) (heads : ℕ → List ℕ) (own : ℕ → Atom) (takes : (l : ℕ) (bs : List Atom) → takes_as_many (length bs) (slice_get labels l) ≡ true → takes_as_many (length (map own (heads l) ++ bs)) (slice_get news l) ≡ true) where
  pub hoisted_formed : (t : Tree) (known known' : List ℕ) → is_formed labels known t ≡ true → Within known known' → ((v : ℕ) → is_known known' (own v) ≡ true) → is_formed news known' (hoisted heads own t) ≡ true
  hoisted_formed (Let x p t) known known' e more fine =
      let u = hoisted heads own t in
      let parts = and_parts (is_primitive known p) (is_formed labels (x ∷ known) t) e in
      let wider = within-right (x ∷ []) known' in
      and_from (is_primitive known' (prim_at own p)) (is_formed news (x ∷ known') u) (prim_at_known own known known' more fine p parts.0)
      (hoisted_formed t (x ∷ known) (x ∷ known') parts.1 (within-behind_same (x ∷ []) known known' more) (λ v. atom-more known' (x ∷ known') (own v) wider (fine v)))
  hoisted_formed (Read m xs a t) known known' e more fine =
      let u = hoisted heads own t in
      let n = length xs in
      let b = address_at own m a in
      let p1 = and_parts (is_known known a) (can_move m n && (is_address m a n && is_formed labels (xs ++ known) t)) e in
      let p2 = and_parts (can_move m n) (is_address m a n && is_formed labels (xs ++ known) t) p1.1 in
      let p3 = and_parts (is_address m a n) (is_formed labels (xs ++ known) t) p2.1 in
      let wider = within-right xs known' in
      let last = hoisted_formed t (xs ++ known) (xs ++ known') p3.1 (within-behind_same xs known known' more) (λ v. atom-more known' (xs ++ known') (own v) wider (fine v)) in
      and_from (is_known known' b) (can_move m n && (is_address m b n && is_formed news (xs ++ known') u)) (address_known own known known' more fine m a p1.0)
      (and_from (can_move m n) (is_address m b n && is_formed news (xs ++ known') u) p2.0 (and_from (is_address m b n) (is_formed news (xs ++ known') u) (still_address own m a n p3.0) last))
  hoisted_formed (Write m a bs t) known known' e more fine =
      let u = hoisted heads own t in
      let n = length bs in
      let b = address_at own m a in
      let p1 = and_parts (is_known known a) (all_known known bs && (can_move m n && (is_address m a n && is_formed labels known t))) e in
      let p2 = and_parts (all_known known bs) (can_move m n && (is_address m a n && is_formed labels known t)) p1.1 in
      let p3 = and_parts (can_move m n) (is_address m a n && is_formed labels known t) p2.1 in
      let p4 = and_parts (is_address m a n) (is_formed labels known t) p3.1 in
      let last = hoisted_formed t known known' p4.1 more fine in
      and_from (is_known known' b) (all_known known' bs && (can_move m n && (is_address m b n && is_formed news known' u))) (address_known own known known' more fine m a p1.0)
      (and_from (all_known known' bs) (can_move m n && (is_address m b n && is_formed news known' u)) (all_still own known known' more fine bs p2.0)
      (and_from (can_move m n) (is_address m b n && is_formed news known' u) p3.0 (and_from (is_address m b n) (is_formed news known' u) (still_address own m a n p4.0) last)))
  hoisted_formed (If c a b t1 t2) known known' e more fine =
      let u1 = hoisted heads own t1 in
      let u2 = hoisted heads own t2 in
      let p1 = and_parts (is_known known a) (is_known known b && (is_formed labels known t1 && is_formed labels known t2)) e in
      let p2 = and_parts (is_known known b) (is_formed labels known t1 && is_formed labels known t2) p1.1 in
      let p3 = and_parts (is_formed labels known t1) (is_formed labels known t2) p2.1 in
      and_from (is_known known' (test_at own c a)) (is_known known' (test_at own c b) && (is_formed news known' u1 && is_formed news known' u2)) (test_known own known known' more fine c a p1.0)
      (and_from (is_known known' (test_at own c b)) (is_formed news known' u1 && is_formed news known' u2) (test_known own known known' more fine c b p2.0)
      (and_from (is_formed news known' u1) (is_formed news known' u2) (hoisted_formed t1 known known' p3.0 more fine) (hoisted_formed t2 known known' p3.1 more fine)))
  hoisted_formed (Jump l bs) known known' e more fine =
      let ws = map own (heads l) ++ bs in
      let p1 = and_parts (all_known known bs) (nat_le 1 l && takes_as_many (length bs) (slice_get labels l)) e in
      let p2 = and_parts (nat_le 1 l) (takes_as_many (length bs) (slice_get labels l)) p1.1 in
      and_from (all_known known' ws) (nat_le 1 l && takes_as_many (length ws) (slice_get news l)) (handed_known own known known' more fine (heads l) bs p1.0)
      (and_from (nat_le 1 l) (takes_as_many (length ws) (slice_get news l)) p2.0 (takes l bs p2.1))
  hoisted_formed (Halt k bs) known known' e more fine =
      let p1 = and_parts (all_known known bs) (nat_le (length bs) 8) e in
      and_from (all_known known' bs) (nat_le (length bs) 8) (all_still own known known' more fine bs p1.0) p1.1
