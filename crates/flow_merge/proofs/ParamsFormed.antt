-- A pruned tree is formed.
use Rattle.std.proofs.Common.{◌≡◌, ℕ, true, false, nat_eq, nat_le, ◌&&◌, List, [], ◌∷◌, ◌++◌, refl, ap, ◌∙◌, length, slice_get}
use Rattle.std.proofs.lemmas.Bool.{and_parts, and_from, or_left}
use Rattle.nv_base.specs.declared.term.Atom.{Atom}
use Rattle.nv_base.specs.Words.{atom_vars, prim_vars}
use Rattle.nv_base.specs.Sets.{is_in, all_vars, Within}
use Rattle.nv_base.specs.Access.{is_known, all_known, is_primitive, can_move, is_address}
use Rattle.nv_base.proofs.Operands.{atom-known, atoms-known, prim-known, count_of_known}
use Rattle.flow_ir.specs.Tree.{Tree, Let, Read, Write, If, Jump, Halt, Label}
use Rattle.flow_ir.specs.Formed.{defined, is_formed, takes_as_many}
use Rattle.flow_ir.specs.Wide.{uses}
use Rattle.flow_ir.proofs.Members.{either, first-or-rest, in-left, in-right, in-rest}
use Rattle.flow_ir.proofs.Renaming.{atom_known, atoms_known, prim_known}
use Rattle.flow_merge.specs.inner.Pruned.{kept_words, params_in, pruned, Clear}
use Rattle.flow_merge.proofs.Keeping.{kept_within}

-- what is known and doesn't go is known
abbrev pub Stays : List ℕ → List ℕ → List ℕ → Type 0
Stays own known known' = (y : ℕ) → is_in y known ≡ true → is_in y own ≡ false → is_in y known' ≡ true

stays_more : (x : ℕ) (own known known' : List ℕ) → Stays own known known' → Stays own (x ∷ known) (x ∷ known')
stays_more x own known known' s = λ y i o. first-or-rest y x known i (λ q. or_left (nat_eq y x) (is_in y known') q) (λ q. in-rest y x known' (s y q o))

stays_all : (xs own known known' : List ℕ) → Stays own known known' → Stays own (xs ++ known) (xs ++ known')
stays_all xs own known known' s = λ y i o. either y xs known i (λ q. in-left y xs known' q) (λ q. in-right y xs known' (s y q o))

still_known : (own known known' xs : List ℕ) → Stays own known known' → Within xs known → Clear own xs → Within xs known'
still_known own known known' xs s w c = λ y i. s y (w y i) (c y i)

pub same_defined : (labels : List Label) (gone : ℕ → List ℕ) (t : Tree) → defined (pruned labels gone t) ≡ defined t
same_defined labels gone (Let x p t) = ap (λ l. x ∷ l) (same_defined labels gone t)
same_defined labels gone (Read m xs a t) = ap (λ l. xs ++ l) (same_defined labels gone t)
same_defined labels gone (Write m a bs t) = same_defined labels gone t
same_defined labels gone (If c a b t u) = ap (λ l. l ++ defined (pruned labels gone u)) (same_defined labels gone t) ∙ ap (λ l. defined t ++ l) (same_defined labels gone u)
same_defined labels gone (Jump l bs) = refl
same_defined labels gone (Halt e bs) = refl

module _ (labels news : List Label) (gone : ℕ → List ℕ) (heads : (l : ℕ) (bs : List Atom) → takes_as_many (length bs) (slice_get labels l) ≡ true → takes_as_many (length (kept_words (gone l) (params_in (slice_get labels l)) bs)) (slice_get news l) ≡ true) (own : List ℕ) where
  pub pruned_formed : (t : Tree) (known known' : List ℕ) → is_formed labels known t ≡ true → Stays own known known' → Clear own (uses (pruned labels gone t)) → is_formed news known' (pruned labels gone t) ≡ true
  pruned_formed (Let x p t) known known' e s c =
      let u = pruned labels gone t in
      let parts = and_parts (is_primitive known p) (is_formed labels (x ∷ known) t) e in
      and_from (is_primitive known' p) (is_formed news (x ∷ known') u)
      (prim_known known' p (count_of_known known p parts.0) (still_known own known known' (prim_vars p) s (prim-known known p parts.0) (λ y i. c y (in-left y (prim_vars p) (uses u) i))))
      (pruned_formed t (x ∷ known) (x ∷ known') parts.1 (stays_more x own known known' s) (λ y i. c y (in-right y (prim_vars p) (uses u) i)))
  pruned_formed (Read m xs a t) known known' e s c =
      let u = pruned labels gone t in
      let n = length xs in
      let p1 = and_parts (is_known known a) (can_move m n && (is_address m a n && is_formed labels (xs ++ known) t)) e in
      let p2 = and_parts (can_move m n) (is_address m a n && is_formed labels (xs ++ known) t) p1.1 in
      let p3 = and_parts (is_address m a n) (is_formed labels (xs ++ known) t) p2.1 in
      let last = pruned_formed t (xs ++ known) (xs ++ known') p3.1 (stays_all xs own known known' s) (λ y i. c y (in-right y (atom_vars a) (uses u) i)) in
      and_from (is_known known' a) (can_move m n && (is_address m a n && is_formed news (xs ++ known') u))
      (atom_known known' a (still_known own known known' (atom_vars a) s (atom-known known a p1.0) (λ y i. c y (in-left y (atom_vars a) (uses u) i))))
      (and_from (can_move m n) (is_address m a n && is_formed news (xs ++ known') u) p2.0 (and_from (is_address m a n) (is_formed news (xs ++ known') u) p3.0 last))
  pruned_formed (Write m a bs t) known known' e s c =
      let u = pruned labels gone t in
      let n = length bs in
      let os = all_vars (a ∷ bs) in
      let p1 = and_parts (is_known known a) (all_known known bs && (can_move m n && (is_address m a n && is_formed labels known t))) e in
      let p2 = and_parts (all_known known bs) (can_move m n && (is_address m a n && is_formed labels known t)) p1.1 in
      let p3 = and_parts (can_move m n) (is_address m a n && is_formed labels known t) p2.1 in
      let p4 = and_parts (is_address m a n) (is_formed labels known t) p3.1 in
      let last = pruned_formed t known known' p4.1 s (λ y i. c y (in-right y os (uses u) i)) in
      and_from (is_known known' a) (all_known known' bs && (can_move m n && (is_address m a n && is_formed news known' u)))
      (atom_known known' a (still_known own known known' (atom_vars a) s (atom-known known a p1.0) (λ y i. c y (in-left y os (uses u) (in-left y (atom_vars a) (all_vars bs) i)))))
      (and_from (all_known known' bs) (can_move m n && (is_address m a n && is_formed news known' u))
      (atoms_known known' bs (still_known own known known' (all_vars bs) s (atoms-known known bs p2.0) (λ y i. c y (in-left y os (uses u) (in-right y (atom_vars a) (all_vars bs) i)))))
      (and_from (can_move m n) (is_address m a n && is_formed news known' u) p3.0 (and_from (is_address m a n) (is_formed news known' u) p4.0 last)))
  pruned_formed (If k a b t1 t2) known known' e s c =
      let u1 = pruned labels gone t1 in
      let u2 = pruned labels gone t2 in
      let os = all_vars (a ∷ b ∷ []) in
      let rest = uses u1 ++ uses u2 in
      let p1 = and_parts (is_known known a) (is_known known b && (is_formed labels known t1 && is_formed labels known t2)) e in
      let p2 = and_parts (is_known known b) (is_formed labels known t1 && is_formed labels known t2) p1.1 in
      let p3 = and_parts (is_formed labels known t1) (is_formed labels known t2) p2.1 in
      and_from (is_known known' a) (is_known known' b && (is_formed news known' u1 && is_formed news known' u2))
      (atom_known known' a (still_known own known known' (atom_vars a) s (atom-known known a p1.0) (λ y i. c y (in-left y os rest (in-left y (atom_vars a) (atom_vars b ++ []) i)))))
      (and_from (is_known known' b) (is_formed news known' u1 && is_formed news known' u2)
      (atom_known known' b (still_known own known known' (atom_vars b) s (atom-known known b p2.0) (λ y i. c y (in-left y os rest (in-right y (atom_vars a) (atom_vars b ++ []) (in-left y (atom_vars b) [] i))))))
      (and_from (is_formed news known' u1) (is_formed news known' u2) (pruned_formed t1 known known' p3.0 s (λ y i. c y (in-right y os rest (in-left y (uses u1) (uses u2) i))))
      (pruned_formed t2 known known' p3.1 s (λ y i. c y (in-right y os rest (in-right y (uses u1) (uses u2) i))))))
  pruned_formed (Jump l bs) known known' e s c =
      let ps = params_in (slice_get labels l) in
      let ks = kept_words (gone l) ps bs in
      let p1 = and_parts (all_known known bs) (nat_le 1 l && takes_as_many (length bs) (slice_get labels l)) e in
      let p2 = and_parts (nat_le 1 l) (takes_as_many (length bs) (slice_get labels l)) p1.1 in
      and_from (all_known known' ks) (nat_le 1 l && takes_as_many (length ks) (slice_get news l))
      (atoms_known known' ks (still_known own known known' (all_vars ks) s (λ y i. atoms-known known bs p1.0 y (kept_within (gone l) ps bs y i)) c))
      (and_from (nat_le 1 l) (takes_as_many (length ks) (slice_get news l)) p2.0 (heads l bs p2.1))
  pruned_formed (Halt n bs) known known' e s c =
      let p1 = and_parts (all_known known bs) (nat_le (length bs) 8) e in
      and_from (all_known known' bs) (nat_le (length bs) 8) (atoms_known known' bs (still_known own known known' (all_vars bs) s (atoms-known known bs p1.0) c)) p1.1
