-- What trees use and define, where each variable stands once.
use Rattle.std.proofs.Common.{◌≡◌, ℕ, true, false, not, nat_eq, ◌&&◌, List, [], ◌∷◌, ◌++◌, refl, sym, ap, subst, ◌∙◌, length}
use Rattle.std.proofs.lemmas.Bool.{and_parts, or_parts, or_from, or_left, not-true, false≢true, false_from_ne_true}
use Rattle.nv_base.specs.declared.term.Atom.{Atom}
use Rattle.nv_base.specs.Words.{atom_vars, prim_vars}
use Rattle.nv_base.specs.Sets.{is_in, all_different, all_vars, without, Within}
use Rattle.nv_base.specs.Access.{is_known, all_known, is_primitive, can_move, is_address}
use Rattle.nv_base.proofs.Sets.{same-number, within-both, within-left}
use Rattle.nv_base.proofs.Operands.{atom-known, atoms-known, prim-known, count_of_known}
use Rattle.flow_ir.specs.Tree.{Tree, Let, Read, Write, If, Jump, Halt, Label}
use Rattle.flow_ir.specs.Formed.{defined, is_formed, is_label}
use Rattle.flow_ir.specs.Wide.{live, uses}
use Rattle.flow_ir.proofs.Members.{either, first-or-rest, in-left, in-right, in-first, in-rest, out-both, out-join, in-or-out, in-not-out, stays, stayed, apart-turned, different-parts}
use Rattle.flow_ir.specs.inner.Scoped.{Fits, Apart, IsScopedLabel}

-- what isn't known twice is another variable
pub not_same : (x y : ℕ) (known : List ℕ) → is_in x known ≡ false → is_in y known ≡ true → nat_eq y x ≡ false
not_same x y known e f = false_from_ne_true (nat_eq y x) (λ p. in-not-out x known (subst (λ z. is_in z known ≡ true) (same-number y x p) f) e)

-- what is known isn't defined
pub fits_apart : (known : List ℕ) (t : Tree) → Fits known t → Apart known (defined t)
fits_apart known (Let x p t) f = λ y e. or_from (nat_eq y x) (is_in y (defined t)) (not_same x y known f.2 e) (fits_apart (x ∷ known) t f.3 y (in-rest y x known e))
fits_apart known (Read m xs a t) f = λ y e. out-join y xs (defined t) (apart-turned xs known f.1 y e) (fits_apart (xs ++ known) t f.2 y (in-right y xs known e))
fits_apart known (Write m a bs t) f = fits_apart known t f.1
fits_apart known (If c a b t u) f = λ y e. out-join y (defined t) (defined u) (fits_apart known t f.1 y e) (fits_apart known u f.2 y e)
fits_apart known (Jump l bs) f = λ y e. refl
fits_apart known (Halt e bs) f = λ y i. refl

-- what is used is known or defined
pub fits_uses : (known : List ℕ) (t : Tree) → Fits known t → Within (uses t) (known ++ defined t)
fits_uses known (Let x p t) f =
    within-both (prim_vars p) (uses t) (known ++ x ∷ defined t) (λ y e. in-left y known (x ∷ defined t) (f.0 y e))
    (λ y e. either y (x ∷ known) (defined t) (fits_uses (x ∷ known) t f.3 y e)
    (λ i. first-or-rest y x known i (λ p. in-right y known (x ∷ defined t) (or_left (nat_eq y x) (is_in y (defined t)) p)) (λ p. in-left y known (x ∷ defined t) p))
    (λ i. in-right y known (x ∷ defined t) (in-rest y x (defined t) i)))
fits_uses known (Read m xs a t) f =
    within-both (atom_vars a) (uses t) (known ++ (xs ++ defined t)) (λ y e. in-left y known (xs ++ defined t) (f.0 y e))
    (λ y e. either y (xs ++ known) (defined t) (fits_uses (xs ++ known) t f.2 y e)
    (λ i. either y xs known i (λ p. in-right y known (xs ++ defined t) (in-left y xs (defined t) p)) (λ p. in-left y known (xs ++ defined t) p))
    (λ i. in-right y known (xs ++ defined t) (in-right y xs (defined t) i)))
fits_uses known (Write m a bs t) f =
    within-both (all_vars (a ∷ bs)) (uses t) (known ++ defined t) (λ y e. in-left y known (defined t) (f.0 y e)) (fits_uses known t f.1)
fits_uses known (If c a b t u) f =
    within-both (all_vars (a ∷ b ∷ [])) (uses t ++ uses u) (known ++ (defined t ++ defined u)) (λ y e. in-left y known (defined t ++ defined u) (f.0 y e))
    (within-both (uses t) (uses u) (known ++ (defined t ++ defined u))
    (λ y e. either y known (defined t) (fits_uses known t f.1 y e) (λ p. in-left y known (defined t ++ defined u) p) (λ p. in-right y known (defined t ++ defined u) (in-left y (defined t) (defined u) p)))
    (λ y e. either y known (defined u) (fits_uses known u f.2 y e) (λ p. in-left y known (defined t ++ defined u) p) (λ p. in-right y known (defined t ++ defined u) (in-right y (defined t) (defined u) p))))
fits_uses known (Jump l bs) f = λ y e. in-left y known [] (f y e)
fits_uses known (Halt e bs) f = λ y i. in-left y known [] (f y i)

-- ---- formed trees

formed_fits : (labels : List Label) (known : List ℕ) (t : Tree) → is_formed labels known t ≡ true → all_different (defined t) ≡ true → Apart known (defined t) → Fits known t
formed_fits labels known (Let x p t) e d apart =
    let parts = and_parts (is_primitive known p) (is_formed labels (x ∷ known) t) e in
    let once = and_parts (not (is_in x (defined t))) (all_different (defined t)) d in (
      prim-known known p parts.0,
      count_of_known known p parts.0,
      false_from_ne_true (is_in x known) (λ i. in-not-out x (x ∷ defined t) (in-first x (defined t)) (apart x i)),
      formed_fits labels (x ∷ known) t parts.1 once.1
          (λ y i. first-or-rest y x known i (λ p. subst (λ z. is_in z (defined t) ≡ false) (sym (same-number y x p)) (not-true (is_in x (defined t)) once.0)) (λ p. (or_parts (nat_eq y x) (is_in y (defined t)) (apart y p)).1)),
    )
formed_fits labels known (Read m xs a t) e d apart =
    let p1 = and_parts (is_known known a) (can_move m (length xs) && (is_address m a (length xs) && is_formed labels (xs ++ known) t)) e in
    let p2 = and_parts (can_move m (length xs)) (is_address m a (length xs) && is_formed labels (xs ++ known) t) p1.1 in
    let p3 = and_parts (is_address m a (length xs)) (is_formed labels (xs ++ known) t) p2.1 in
    let once = different-parts xs (defined t) d in (
      atom-known known a p1.0,
      apart-turned known xs (λ y i. (out-both y xs (defined t) (apart y i)).0),
      formed_fits labels (xs ++ known) t p3.1 once.1 (λ y i. either y xs known i (λ p. once.2 y p) (λ p. (out-both y xs (defined t) (apart y p)).1)),
    )
formed_fits labels known (Write m a bs t) e d apart =
    let p1 = and_parts (is_known known a) (all_known known bs && (can_move m (length bs) && (is_address m a (length bs) && is_formed labels known t))) e in
    let p2 = and_parts (all_known known bs) (can_move m (length bs) && (is_address m a (length bs) && is_formed labels known t)) p1.1 in
    let p3 = and_parts (can_move m (length bs)) (is_address m a (length bs) && is_formed labels known t) p2.1 in
    let p4 = and_parts (is_address m a (length bs)) (is_formed labels known t) p3.1 in
    (within-both (atom_vars a) (all_vars bs) known (atom-known known a p1.0) (atoms-known known bs p2.0), formed_fits labels known t p4.1 d apart)
formed_fits labels known (If c a b t u) e d apart =
    let p1 = and_parts (is_known known a) (is_known known b && (is_formed labels known t && is_formed labels known u)) e in
    let p2 = and_parts (is_known known b) (is_formed labels known t && is_formed labels known u) p1.1 in
    let p3 = and_parts (is_formed labels known t) (is_formed labels known u) p2.1 in
    let once = different-parts (defined t) (defined u) d in (
      atoms-known known (a ∷ b ∷ []) (both-known known a b p1.0 p2.0),
      formed_fits labels known t p3.0 once.0 (λ y i. (out-both y (defined t) (defined u) (apart y i)).0),
      formed_fits labels known u p3.1 once.1 (λ y i. (out-both y (defined t) (defined u) (apart y i)).1),
      once.2,
    )
  where
    both-known : (known : List ℕ) (a b : Atom) → is_known known a ≡ true → is_known known b ≡ true → all_known known (a ∷ b ∷ []) ≡ true
    both-known known a b p q = ap (λ i. i && (is_known known b && true)) p ∙ ap (λ i. i && true) q
formed_fits labels known (Jump l bs) e d apart = atoms-known known bs (and_parts (all_known known bs) _ e).0
formed_fits labels known (Halt n bs) e d apart = atoms-known known bs (and_parts (all_known known bs) _ e).0

pub label_fits : (labels : List Label) (l : Label) → is_label labels l ≡ true → IsScopedLabel l
label_fits labels l e =
    let parts = and_parts (is_formed labels l.params l.body) (all_different (l.params ++ defined l.body)) e in
    let once = different-parts l.params (defined l.body) parts.1 in
    formed_fits labels l.params l.body parts.0 once.1 once.2

-- ---- uses and live variables

pub uses_live : (t : Tree) → Within (uses t) (live t ++ defined t)
uses_live (Let x k t) =
    within-both (prim_vars k) (uses t) (live (Let x k t) ++ x ∷ defined t) (λ y e. in-left y (live (Let x k t)) (x ∷ defined t) (in-left y (prim_vars k) (without (live t) (x ∷ [])) e))
    (λ y e. either y (live t) (defined t) (uses_live t y e)
    (λ i. in-or-out y (x ∷ []) (λ p. in-right y (live (Let x k t)) (x ∷ defined t) (first-or-rest y x [] p (λ q. or_left (nat_eq y x) (is_in y (defined t)) q) (λ q. absurd (false≢true q))))
    (λ q. in-left y (live (Let x k t)) (x ∷ defined t) (in-right y (prim_vars k) (without (live t) (x ∷ [])) (stays y (live t) (x ∷ []) i q))))
    (λ i. in-right y (live (Let x k t)) (x ∷ defined t) (in-rest y x (defined t) i)))
uses_live (Read m xs a t) =
    within-both (atom_vars a) (uses t) (live (Read m xs a t) ++ (xs ++ defined t)) (λ y e. in-left y (live (Read m xs a t)) (xs ++ defined t) (in-left y (atom_vars a) (without (live t) xs) e))
    (λ y e. either y (live t) (defined t) (uses_live t y e)
    (λ i. in-or-out y xs (λ p. in-right y (live (Read m xs a t)) (xs ++ defined t) (in-left y xs (defined t) p))
    (λ q. in-left y (live (Read m xs a t)) (xs ++ defined t) (in-right y (atom_vars a) (without (live t) xs) (stays y (live t) xs i q))))
    (λ i. in-right y (live (Read m xs a t)) (xs ++ defined t) (in-right y xs (defined t) i)))
uses_live (Write m a bs t) =
    within-both (all_vars (a ∷ bs)) (uses t) ((all_vars (a ∷ bs) ++ live t) ++ defined t) (λ y e. in-left y (all_vars (a ∷ bs) ++ live t) (defined t) (in-left y (all_vars (a ∷ bs)) (live t) e))
    (λ y e. either y (live t) (defined t) (uses_live t y e) (λ i. in-left y (all_vars (a ∷ bs) ++ live t) (defined t) (in-right y (all_vars (a ∷ bs)) (live t) i)) (λ i. in-right y (all_vars (a ∷ bs) ++ live t) (defined t) i))
uses_live (If c a b t u) =
    let os = all_vars (a ∷ b ∷ []) in
    let here = os ++ (live t ++ live u) in
    within-both os (uses t ++ uses u) (here ++ (defined t ++ defined u)) (λ y e. in-left y here (defined t ++ defined u) (in-left y os (live t ++ live u) e))
    (within-both (uses t) (uses u) (here ++ (defined t ++ defined u))
    (λ y e. either y (live t) (defined t) (uses_live t y e) (λ i. in-left y here (defined t ++ defined u) (in-right y os (live t ++ live u) (in-left y (live t) (live u) i))) (λ i. in-right y here (defined t ++ defined u) (in-left y (defined t) (defined u) i)))
    (λ y e. either y (live u) (defined u) (uses_live u y e) (λ i. in-left y here (defined t ++ defined u) (in-right y os (live t ++ live u) (in-right y (live t) (live u) i))) (λ i. in-right y here (defined t ++ defined u) (in-right y (defined t) (defined u) i))))
uses_live (Jump l bs) = λ y e. in-left y (all_vars bs) [] e
uses_live (Halt e bs) = λ y i. in-left y (all_vars bs) [] i

pub live_uses : (t : Tree) → Within (live t) (uses t)
live_uses (Let x p t) = within-both (prim_vars p) (without (live t) (x ∷ [])) (prim_vars p ++ uses t) (within-left (prim_vars p) (uses t)) (λ y e. in-right y (prim_vars p) (uses t) (live_uses t y (stayed y (live t) (x ∷ []) e).0))
live_uses (Read m xs a t) = within-both (atom_vars a) (without (live t) xs) (atom_vars a ++ uses t) (within-left (atom_vars a) (uses t)) (λ y e. in-right y (atom_vars a) (uses t) (live_uses t y (stayed y (live t) xs e).0))
live_uses (Write m a bs t) = within-both (all_vars (a ∷ bs)) (live t) (all_vars (a ∷ bs) ++ uses t) (within-left (all_vars (a ∷ bs)) (uses t)) (λ y e. in-right y (all_vars (a ∷ bs)) (uses t) (live_uses t y e))
live_uses (If c a b t u) =
    let os = all_vars (a ∷ b ∷ []) in
    within-both os (live t ++ live u) (os ++ (uses t ++ uses u)) (within-left os (uses t ++ uses u))
    (within-both (live t) (live u) (os ++ (uses t ++ uses u)) (λ y e. in-right y os (uses t ++ uses u) (in-left y (uses t) (uses u) (live_uses t y e))) (λ y e. in-right y os (uses t ++ uses u) (in-right y (uses t) (uses u) (live_uses u y e))))
live_uses (Jump l bs) = λ y e. e
live_uses (Halt e bs) = λ y i. i

-- what a tree has live is known
pub fits_live : (known : List ℕ) (t : Tree) → Fits known t → Within (live t) known
fits_live known (Let x p t) f =
    within-both (prim_vars p) (without (live t) (x ∷ [])) known f.0
    (λ y e. let parts = stayed y (live t) (x ∷ []) e in either y (x ∷ []) known (fits_live (x ∷ known) t f.3 y parts.0) (λ i. in-not-out y (x ∷ []) i parts.1) (λ i. i))
fits_live known (Read m xs a t) f =
    within-both (atom_vars a) (without (live t) xs) known f.0
    (λ y e. let parts = stayed y (live t) xs e in either y xs known (fits_live (xs ++ known) t f.2 y parts.0) (λ i. in-not-out y xs i parts.1) (λ i. i))
fits_live known (Write m a bs t) f = within-both (all_vars (a ∷ bs)) (live t) known f.0 (fits_live known t f.1)
fits_live known (If c a b t u) f = within-both (all_vars (a ∷ b ∷ [])) (live t ++ live u) known f.0 (within-both (live t) (live u) known (fits_live known t f.1) (fits_live known u f.2))
fits_live known (Jump l bs) f = f
fits_live known (Halt e bs) f = f
