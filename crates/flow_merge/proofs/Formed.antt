-- A copy is formed, and defines numbers in a row.
use Rattle.std.proofs.Common.{◌≡◌, ℕ, suc, ◌+◌, Bool, true, false, nat_eq, nat_le, ◌&&◌, ◌||◌, List, [], ◌∷◌, ◌++◌, Some, refl, sym, ap, ◌∙◌, length, slice_get, arith}
use Rattle.std.specs.List.{range_with_len}
use Rattle.std.proofs.lemmas.Bool.{and_parts, and_from, false≢true}
use Rattle.std.proofs.lemmas.List.FromFn.{length-range_with_len}
use Rattle.nv_base.specs.declared.term.Atom.{Atom}
use Rattle.nv_base.specs.declared.term.Atom.TheVariants.{Var, Lit}
use Rattle.nv_base.specs.declared.term.Primitive.{Primitive}
use Rattle.nv_base.specs.declared.term.Primitive.TheVariants.{Same, Una as UnaOf, Bin as BinOf}
use Rattle.nv_base.specs.Sets.{is_in}
use Rattle.nv_base.specs.Access.{is_known, all_known, has_count, is_primitive, can_move, is_address}
use Rattle.nv_base.proofs.Sets.{in-later}
use Rattle.flow_ir.specs.Tree.{Tree, Label}
use Rattle.flow_ir.specs.Formed.{defined, is_formed, takes_as_many}
use Rattle.flow_ir.specs.Substitution.{Names, renamed, all_renamed, prim_renamed}
use Rattle.flow_ir.proofs.Members.{in-first, in-rest, in-left, first-or-rest}
use Rattle.flow_ir.proofs.Renaming.{all_length, address_renamed}
use Rattle.flow_merge.proofs.Lookup.{in_other}
use Rattle.flow_merge.specs.inner.Copied.{named, all_named, numbered, Numbering, Copied, kept, read, write, choice, swapped, first, second, jump, halt, inside}
use Rattle.flow_merge.proofs.Naming.{named_case, named_here, named_else, range_append}

-- ---- what stands for known variables is known

abbrev pub AreKnown : List ℕ → Names → List ℕ → Type 0
AreKnown known σ known' = (y : ℕ) → is_in y known ≡ true → is_known known' (σ y) ≡ true

atom_renamed : (known known' : List ℕ) (σ : Names) (a : Atom) → AreKnown known σ known' → is_known known a ≡ true → is_known known' (renamed σ a) ≡ true
atom_renamed known known' σ (Var x) h e = h x e
atom_renamed known known' σ (Lit v) h e = refl

atoms_renamed : (known known' : List ℕ) (σ : Names) (bs : List Atom) → AreKnown known σ known' → all_known known bs ≡ true → all_known known' (all_renamed σ bs) ≡ true
atoms_renamed known known' σ [] h e = refl
atoms_renamed known known' σ (b ∷ bs) h e =
    let parts = and_parts (is_known known b) (all_known known bs) e in and_from (is_known known' (renamed σ b)) (all_known known' (all_renamed σ bs)) (atom_renamed known known' σ b h parts.0) (atoms_renamed known known' σ bs h parts.1)

prim_known : (known known' : List ℕ) (σ : Names) (p : Primitive) → AreKnown known σ known' → is_primitive known p ≡ true → is_primitive known' (prim_renamed σ p) ≡ true
prim_known known known' σ (Same a) h e = atom_renamed known known' σ a h e
prim_known known known' σ (UnaOf op a) h e = let parts = and_parts (has_count op) (is_known known a) e in and_from (has_count op) (is_known known' (renamed σ a)) parts.0 (atom_renamed known known' σ a h parts.1)
prim_known known known' σ (BinOf op a b) h e =
    let parts = and_parts (is_known known a) (is_known known b) e in and_from (is_known known' (renamed σ a)) (is_known known' (renamed σ b)) (atom_renamed known known' σ a h parts.0) (atom_renamed known known' σ b h parts.1)

more_known : (known' more : List ℕ) (a : Atom) → ((y : ℕ) → is_in y known' ≡ true → is_in y more ≡ true) → is_known known' a ≡ true → is_known more a ≡ true
more_known known' more (Var x) w e = w x e
more_known known' more (Lit v) w e = refl

known_kept : (known known' : List ℕ) (σ : Names) (n x : ℕ) → AreKnown known σ known' → AreKnown (x ∷ known) (named σ x (Var n)) (n ∷ known')
known_kept known known' σ n x h =
    λ y i.
    named_case y x (λ e. ap (is_known (n ∷ known')) (named_here σ x y (Var n) e) ∙ in-first n known')
    (λ e. ap (is_known (n ∷ known')) (named_else σ x y (Var n) e) ∙ more_known known' (n ∷ known') (σ y) (λ z j. in-rest z n known' j) (h y (in_other (nat_eq y x) y known e i)))

pub known_numbered : (xs known known' : List ℕ) (σ : Names) (n : ℕ) → AreKnown known σ known' → AreKnown (xs ++ known) (numbered σ n xs) (range_with_len n (length xs) ++ known')
known_numbered [] known known' σ n h = h
known_numbered (x ∷ xs) known known' σ n h =
    λ y i.
    more_known (range_with_len (n + 1) (length xs) ++ n ∷ known') (n ∷ range_with_len (n + 1) (length xs) ++ known') (numbered (named σ x (Var n)) (n + 1) xs y) (λ z j. earlier z (range_with_len (n + 1) (length xs)) j)
    (known_numbered xs (x ∷ known) (n ∷ known') (named σ x (Var n)) (n + 1) (known_kept known known' σ n x h) y (in-later (nat_eq y x) y xs x known refl i))
  where
    earlier : (z : ℕ) (ys : List ℕ) → is_in z (ys ++ n ∷ known') ≡ true → is_in z (n ∷ ys ++ known') ≡ true
    earlier z [] j = j
    earlier z (v ∷ ys) j = first-or-rest z v (ys ++ n ∷ known') j (λ p. in-rest z n (v ∷ ys ++ known') (in-left z (v ∷ []) (ys ++ known') (or_nothing (nat_eq z v) p))) (λ p. behind_first z n v (ys ++ known') (earlier z ys p))
      where
        or_nothing : (b : Bool) → b ≡ true → (b || false) ≡ true
        or_nothing true e = refl
        or_nothing false e = e

        behind_first : (z n v : ℕ) (l : List ℕ) → is_in z (n ∷ l) ≡ true → is_in z (n ∷ v ∷ l) ≡ true
        behind_first z n v l i = first-or-rest z n l i (λ p. in-left z (n ∷ []) (v ∷ l) (or_nothing (nat_eq z n) p)) (λ p. in-rest z n (v ∷ l) (in-rest z v l p))

known_named : (known known' : List ℕ) (σ : Names) (x : ℕ) (a : Atom) → is_known known' a ≡ true → AreKnown known σ known' → AreKnown (x ∷ known) (named σ x a) known'
known_named known known' σ x a at h =
    λ y i. named_case y x (λ e. ap (is_known known') (named_here σ x y a e) ∙ at) (λ e. ap (is_known known') (named_else σ x y a e) ∙ h y (in_other (nat_eq y x) y known e i))

known_operands : (xs : List ℕ) (as' : List Atom) (known known' : List ℕ) (σ : Names) → all_known known' as' ≡ true → AreKnown known σ known' → AreKnown (xs ++ known) (all_named σ xs as') known'
known_operands [] as' known known' σ all h = h
known_operands (x ∷ xs) [] known known' σ all h = λ y i. known_operands xs [] (x ∷ known) known' (named σ x (Lit 0)) refl (known_named known known' σ x (Lit 0) refl h) y (in-later (nat_eq y x) y xs x known refl i)
known_operands (x ∷ xs) (a ∷ as') known known' σ all h =
    let parts = and_parts (is_known known' a) (all_known known' as') all in
    λ y i. known_operands xs as' (x ∷ known) known' (named σ x a) parts.1 (known_named known known' σ x a parts.0 h) y (in-later (nat_eq y x) y xs x known refl i)

-- ---- formed

abbrev pub AllFormed : List Label → Type 0
AllFormed labels = (l : ℕ) (m : Label) → slice_get labels l ≡ Some m → is_formed labels m.params m.body ≡ true

module _ (labels news : List Label) (s : Numbering) (formed : AllFormed labels) (heads : (n l : ℕ) → s.stays l ≡ true → nat_le 1 l ≡ true → takes_as_many n (slice_get labels l) ≡ true → (nat_le 1 (s.to l) ≡ true) × (takes_as_many n (slice_get news (s.to l)) ≡ true)) where
  pub copy_formed : (known known' : List ℕ) (σ : Names) (n k : ℕ) (t u : Tree) → Copied labels s σ n t u k → is_formed labels known t ≡ true → AreKnown known σ known' → is_formed news known' u ≡ true
  copy_formed known known' σ n k t u (kept σ' n' k' x p t' u' rest) e h =
      let parts = and_parts (is_primitive known p) (is_formed labels (x ∷ known) t') e in
      and_from (is_primitive known' (prim_renamed σ p)) (is_formed news (n ∷ known') u') (prim_known known known' σ p h parts.0) (copy_formed (x ∷ known) (n ∷ known') (named σ x (Var n)) (n + 1) k t' u' rest parts.1 (known_kept known known' σ n x h))
  copy_formed known known' σ n k t u (read σ' n' k' m xs a t' u' rest) e h =
      let ys = range_with_len n (length xs) in
      let p1 = and_parts (is_known known a) (can_move m (length xs) && (is_address m a (length xs) && is_formed labels (xs ++ known) t')) e in
      let p2 = and_parts (can_move m (length xs)) (is_address m a (length xs) && is_formed labels (xs ++ known) t') p1.1 in
      let p3 = and_parts (is_address m a (length xs)) (is_formed labels (xs ++ known) t') p2.1 in
      let last = copy_formed (xs ++ known) (ys ++ known') (numbered σ n xs) (n + length xs) k t' u' rest p3.1 (known_numbered xs known known' σ n h) in
      and_from (is_known known' (renamed σ a)) (can_move m (length ys) && (is_address m (renamed σ a) (length ys) && is_formed news (ys ++ known') u')) (atom_renamed known known' σ a h p1.0)
      (ap (λ i. can_move m i && (is_address m (renamed σ a) i && is_formed news (ys ++ known') u')) (length-range_with_len n (length xs))
      ∙ and_from (can_move m (length xs)) (is_address m (renamed σ a) (length xs) && is_formed news (ys ++ known') u') p2.0
      (and_from (is_address m (renamed σ a) (length xs)) (is_formed news (ys ++ known') u') (address_renamed σ m a (length xs) p3.0) last))
  copy_formed known known' σ n k t u (write σ' n' k' m a bs t' u' rest) e h =
      let i = length bs in
      let j = length (all_renamed σ bs) in
      let p1 = and_parts (is_known known a) (all_known known bs && (can_move m i && (is_address m a i && is_formed labels known t'))) e in
      let p2 = and_parts (all_known known bs) (can_move m i && (is_address m a i && is_formed labels known t')) p1.1 in
      let p3 = and_parts (can_move m i) (is_address m a i && is_formed labels known t') p2.1 in
      let p4 = and_parts (is_address m a i) (is_formed labels known t') p3.1 in
      let last = copy_formed known known' σ n k t' u' rest p4.1 h in
      and_from (is_known known' (renamed σ a)) (all_known known' (all_renamed σ bs) && (can_move m j && (is_address m (renamed σ a) j && is_formed news known' u'))) (atom_renamed known known' σ a h p1.0)
      (and_from (all_known known' (all_renamed σ bs)) (can_move m j && (is_address m (renamed σ a) j && is_formed news known' u')) (atoms_renamed known known' σ bs h p2.0)
      (ap (λ z. can_move m z && (is_address m (renamed σ a) z && is_formed news known' u')) (all_length σ bs)
      ∙ and_from (can_move m i) (is_address m (renamed σ a) i && is_formed news known' u') p3.0 (and_from (is_address m (renamed σ a) i) (is_formed news known' u') (address_renamed σ m a i p4.0) last)))
  copy_formed known known' σ n k t u (choice σ' n' j k' c a b t1 t2 u1 u2 left right) e h =
      let p1 = and_parts (is_known known a) (is_known known b && (is_formed labels known t1 && is_formed labels known t2)) e in
      let p2 = and_parts (is_known known b) (is_formed labels known t1 && is_formed labels known t2) p1.1 in
      let p3 = and_parts (is_formed labels known t1) (is_formed labels known t2) p2.1 in
      and_from (is_known known' (renamed σ a)) (is_known known' (renamed σ b) && (is_formed news known' u1 && is_formed news known' u2)) (atom_renamed known known' σ a h p1.0)
      (and_from (is_known known' (renamed σ b)) (is_formed news known' u1 && is_formed news known' u2) (atom_renamed known known' σ b h p2.0)
      (and_from (is_formed news known' u1) (is_formed news known' u2) (copy_formed known known' σ n j t1 u1 left p3.0 h) (copy_formed known known' σ j k t2 u2 right p3.1 h)))
  copy_formed known known' σ n k t u (swapped σ' n' j k' c a b t1 t2 u1 u2 left right) e h =
      let p1 = and_parts (is_known known a) (is_known known b && (is_formed labels known t1 && is_formed labels known t2)) e in
      let p2 = and_parts (is_known known b) (is_formed labels known t1 && is_formed labels known t2) p1.1 in
      let p3 = and_parts (is_formed labels known t1) (is_formed labels known t2) p2.1 in
      and_from (is_known known' (renamed σ a)) (is_known known' (renamed σ b) && (is_formed news known' u2 && is_formed news known' u1)) (atom_renamed known known' σ a h p1.0)
      (and_from (is_known known' (renamed σ b)) (is_formed news known' u2 && is_formed news known' u1) (atom_renamed known known' σ b h p2.0)
      (and_from (is_formed news known' u2) (is_formed news known' u1) (copy_formed known known' σ n j t2 u2 left p3.1 h) (copy_formed known known' σ j k t1 u1 right p3.0 h)))
  copy_formed known known' σ n k t u (first σ' n' k' c a b t1 t2 v s rest) e h =
      let p1 = and_parts (is_known known a) (is_known known b && (is_formed labels known t1 && is_formed labels known t2)) e in
      let p2 = and_parts (is_known known b) (is_formed labels known t1 && is_formed labels known t2) p1.1 in
      copy_formed known known' σ n k t1 v rest (and_parts (is_formed labels known t1) (is_formed labels known t2) p2.1).0 h
  copy_formed known known' σ n k t u (second σ' n' k' c a b t1 t2 v s rest) e h =
      let p1 = and_parts (is_known known a) (is_known known b && (is_formed labels known t1 && is_formed labels known t2)) e in
      let p2 = and_parts (is_known known b) (is_formed labels known t1 && is_formed labels known t2) p1.1 in
      copy_formed known known' σ n k t2 v rest (and_parts (is_formed labels known t1) (is_formed labels known t2) p2.1).1 h
  copy_formed known known' σ n k t u (jump σ' n' l bs lt stays) e h =
      let j = length (all_renamed σ bs) in
      let p1 = and_parts (all_known known bs) (nat_le 1 l && takes_as_many (length bs) (slice_get labels l)) e in
      let p2 = and_parts (nat_le 1 l) (takes_as_many (length bs) (slice_get labels l)) p1.1 in
      let there = heads (length bs) l stays p2.0 p2.1 in
      and_from (all_known known' (all_renamed σ bs)) (nat_le 1 (s.to l) && takes_as_many j (slice_get news (s.to l))) (atoms_renamed known known' σ bs h p1.0)
      (and_from (nat_le 1 (s.to l)) (takes_as_many j (slice_get news (s.to l))) there.0 (ap (λ i. takes_as_many i (slice_get news (s.to l))) (all_length σ bs) ∙ there.1))
  copy_formed known known' σ n k t u (halt σ' n' x bs) e h =
      let p1 = and_parts (all_known known bs) (nat_le (length bs) 8) e in
      and_from (all_known known' (all_renamed σ bs)) (nat_le (length (all_renamed σ bs)) 8) (atoms_renamed known known' σ bs h p1.0) (ap (λ i. nat_le i 8) (all_length σ bs) ∙ p1.1)
  copy_formed known known' σ n k t u (inside σ' n' k' l bs m v at rest) e h =
      let p1 = and_parts (all_known known bs) (nat_le 1 l && takes_as_many (length bs) (slice_get labels l)) e in
      copy_formed m.params known' (all_named σ m.params (all_renamed σ bs)) n k m.body v rest (formed l m at)
      (λ y i. known_operands m.params (all_renamed σ bs) [] known' σ (atoms_renamed known known' σ bs h p1.0) (λ z j. absurd (false≢true j)) y (in-left y m.params [] i))

-- ---- what a copy defines

-- so many numbers from n on
abbrev pub InRow : ℕ → ℕ → List ℕ → Type 0
InRow n k xs = (i : ℕ) × (k ≡ n + i) × (xs ≡ range_with_len n i)

both_rows : (n j k : ℕ) (xs ys : List ℕ) → InRow n j xs → InRow j k ys → InRow n k (xs ++ ys)
both_rows n j k xs ys p q =
    let ej = p.1 in
    let ek = q.1 in
    (p.0 + q.0, omega (arith, ej, ek), ap (λ l. l ++ ys) p.2 ∙ ap (λ l. range_with_len n p.0 ++ l) (q.2 ∙ ap (λ z. range_with_len z q.0) ej) ∙ sym (range_append p.0 q.0 n))

pub copy_defines : {labels : List Label} {s : Numbering} (σ : Names) (n k : ℕ) (t u : Tree) → Copied labels s σ n t u k → InRow n k (defined u)
copy_defines σ n k t u (kept σ' n' k' x p t' u' rest) =
    let r = copy_defines (named σ x (Var n)) (n + 1) k t' u' rest in
    let e = r.1 in
    (suc r.0, omega (arith, e), ap (λ l. n ∷ l) r.2)
copy_defines σ n k t u (read σ' n' k' m xs a t' u' rest) = both_rows n (n + length xs) k (range_with_len n (length xs)) (defined u') (length xs, refl, refl) (copy_defines (numbered σ n xs) (n + length xs) k t' u' rest)
copy_defines σ n k t u (write σ' n' k' m a bs t' u' rest) = copy_defines σ n k t' u' rest
copy_defines σ n k t u (choice σ' n' j k' c a b t1 t2 u1 u2 left right) = both_rows n j k (defined u1) (defined u2) (copy_defines σ n j t1 u1 left) (copy_defines σ j k t2 u2 right)
copy_defines σ n k t u (swapped σ' n' j k' c a b t1 t2 u1 u2 left right) = both_rows n j k (defined u2) (defined u1) (copy_defines σ n j t2 u2 left) (copy_defines σ j k t1 u1 right)
copy_defines σ n k t u (first σ' n' k' c a b t1 t2 v e rest) = copy_defines σ n k t1 v rest
copy_defines σ n k t u (second σ' n' k' c a b t1 t2 v e rest) = copy_defines σ n k t2 v rest
copy_defines σ n k t u (jump σ' n' l bs lt stays) = (0, omega arith, refl)
copy_defines σ n k t u (halt σ' n' e bs) = (0, omega arith, refl)
copy_defines σ n k t u (inside σ' n' k' l bs m v e rest) = copy_defines (all_named σ m.params (all_renamed σ bs)) n k m.body v rest
