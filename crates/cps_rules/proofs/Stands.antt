-- What stands for each variable of a simplified label, and what its definitions hold.
use Rattle.std.proofs.Common.{◌≡◌, ℕ, true, false, ◌⊎◌, inl, inr, if◌then◌else◌, List, [], ◌∷◌, ◌++◌, refl, sym, ap, subst, ◌∙◌}
use Rattle.std.specs.Prelude.{slice_get}
use Rattle.std.specs.List.{list_all}
use Rattle.std.proofs.lemmas.Bool.{and_parts, false≢true}
use Rattle.nv_base.specs.declared.term.Atom.TheVariants.{Var}
use Rattle.nv_base.specs.declared.term.Primitive.{Primitive}
use Rattle.nv_base.specs.declared.term.Primitive.TheVariants.{Same}
use Rattle.nv_base.specs.Sets.{is_in}
use Rattle.nv_base.proofs.Sets.{same-number}
use Rattle.flow_ir.specs.Formed.{defined, is_label, is_entry, is_flow}
use Rattle.flow_ir.specs.Tree.{Tree, Let, If, Label}
use Rattle.cps_rules.specs.Rules.{Answers, IsAnswered}
use Rattle.cps_rules.specs.Simplified.{Defines, AreSimplified}
use Rattle.flow_ir.specs.Substitution.{Names, prim_renamed}
use Rattle.flow_ir.specs.Wide.{uses}
use Rattle.cps_rules.specs.inner.Way.{Counted, Simplified, same, kept, dropped, read, write, choice, jump, halt, IsLabelDone, AreDone}
use Rattle.cps_rules.proofs.Flows.{AllScoped, all_scoped}
use Rattle.flow_ir.proofs.Members.{either, first-or-rest, in-or-out}
use Rattle.flow_ir.proofs.Scopes.{fits_apart, fits_uses}
use Rattle.flow_ir.proofs.Renaming.{AreAlike}
use Rattle.flow_ir.specs.inner.Scoped.{IsScopedLabel}
use Rattle.cps_rules.proofs.Way.{alike}
use Rattle.cps_rules.proofs.WayFormed.{same_accesses, lets_answered}

-- ---- answers, whatever the counts

plain_answer : (A : Answers) (p q : Primitive) → IsAnswered (Counted A) p q → IsAnswered A p q
plain_answer A p q (inl h) = inl h.1
plain_answer A p q (inr h) = inr (h.0.1, h.1)

plain : (A : Answers) (σ : Names) (t u : Tree) → Simplified (Counted A) σ t u → Simplified A σ t u
plain A σ t u (same x p a t' u' answered at rest) = same x p a t' u' (plain_answer A _ _ answered) at (plain A σ t' u' rest)
plain A σ t u (kept x p q t' u' answered other at rest) = kept x p q t' u' (plain_answer A _ _ answered) other at (plain A σ t' u' rest)
plain A σ t u (dropped x p q t' u' answered at unused rest) = dropped x p q t' u' (plain_answer A _ _ answered) at unused (plain A σ t' u' rest)
plain A σ t u (read m xs a t' u' own rest) = read m xs a t' u' own (plain A σ t' u' rest)
plain A σ t u (write m a bs t' u' rest) = write m a bs t' u' (plain A σ t' u' rest)
plain A σ t u (choice c a b t1 t2 u1 u2 left right) = choice c a b t1 t2 u1 u2 (plain A σ t1 u1 left) (plain A σ t2 u2 right)
plain A σ t u (jump l bs) = jump l bs
plain A σ t u (halt n bs) = halt n bs

-- ---- what stands for a variable

-- what stands for x is x, or an answer for what defines it
abbrev pub StandsFor : Answers → Names → Tree → ℕ → Type 0
StandsFor A σ t x = (σ x ≡ Var x) ⊎ ((p : Primitive) × Defines x p t × IsAnswered A (prim_renamed σ p) (Same (σ x)))

-- it stands for the same in a larger tree
further : (A : Answers) (σ : Names) (t u : Tree) (x : ℕ) → ((p : Primitive) → Defines x p t → Defines x p u) → StandsFor A σ t x → StandsFor A σ u x
further A σ t u x f (inl e) = inl e
further A σ t u x f (inr h) = inr (h.0, f h.0 h.1, h.2)

pub each_stands : (A : Answers) (σ : Names) (t u : Tree) → Simplified A σ t u → (x : ℕ) → is_in x (defined t) ≡ true → StandsFor A σ t x
each_stands A σ t u (same y p a t' u' answered at rest) x e =
    first-or-rest x y (defined t') e
    (λ k. inr (p, inl (same-number x y k, refl), subst (λ v. IsAnswered A (prim_renamed σ p) (Same v)) (sym (ap σ (same-number x y k) ∙ at)) answered))
    (λ i. further A σ t' (Let y p t') x (λ r d. inr d) (each_stands A σ t' u' rest x i))
each_stands A σ t u (kept y p q t' u' answered other at rest) x e =
    first-or-rest x y (defined t') e (λ k. inl (subst (λ z. σ z ≡ Var z) (sym (same-number x y k)) at))
    (λ i. further A σ t' (Let y p t') x (λ r d. inr d) (each_stands A σ t' u' rest x i))
each_stands A σ t u (dropped y p q t' u' answered at unused rest) x e =
    first-or-rest x y (defined t') e (λ k. inl (subst (λ z. σ z ≡ Var z) (sym (same-number x y k)) at))
    (λ i. further A σ t' (Let y p t') x (λ r d. inr d) (each_stands A σ t' u' rest x i))
each_stands A σ t u (read m xs a t' u' own rest) x e = either x xs (defined t') e (λ i. inl (own x i)) (λ i. each_stands A σ t' u' rest x i)
each_stands A σ t u (write m a bs t' u' rest) x e = each_stands A σ t' u' rest x e
each_stands A σ t u (choice c a b t1 t2 u1 u2 left right) x e =
    either x (defined t1) (defined t2) e (λ i. further A σ t1 (If c a b t1 t2) x (λ p d. inl d) (each_stands A σ t1 u1 left x i))
    (λ i. further A σ t2 (If c a b t1 t2) x (λ p d. inr d) (each_stands A σ t2 u2 right x i))
each_stands A σ t u (jump l bs) x e = absurd (false≢true e)
each_stands A σ t u (halt n bs) x e = absurd (false≢true e)

-- ---- variables that occur nowhere stand for themselves

abbrev own_names : List ℕ → Names → Names
own_names xs σ = λ x. if is_in x xs then σ x else Var x

inside : (xs : List ℕ) (σ : Names) (x : ℕ) → is_in x xs ≡ true → own_names xs σ x ≡ σ x
inside xs σ x e = ap (λ g. if g then σ x else Var x) e

outside : (xs : List ℕ) (σ : Names) (x : ℕ) → is_in x xs ≡ false → own_names xs σ x ≡ Var x
outside xs σ x e = ap (λ g. if g then σ x else Var x) e

own_alike : (l : Label) (σ : Names) → IsScopedLabel l → ((x : ℕ) → is_in x l.params ≡ true → σ x ≡ Var x) → AreAlike (uses l.body ++ defined l.body) σ (own_names (defined l.body) σ)
own_alike l σ fits own =
    λ x e.
    either x (uses l.body) (defined l.body) e
    (λ i.
    either x l.params (defined l.body) (fits_uses l.params l.body fits x i) (λ j. outside (defined l.body) σ x (fits_apart l.params l.body fits x j) ∙ sym (own x j))
    (λ j. inside (defined l.body) σ x j))
    (λ i. inside (defined l.body) σ x i)

-- ---- labels

label_simplified : (A : Answers) (l m : Label) → IsScopedLabel l → (h : IsLabelDone (Counted A) l m) → Simplified A (own_names (defined l.body) h.names) l.body m.body
label_simplified A l m fits h = alike A h.names (own_names (defined l.body) h.names) l.body m.body (plain A h.names l.body m.body h.simplified) (own_alike l h.names fits h.own)

pub labels_simplified : (A : Answers) (ls ms : List Label) → AllScoped ls → AreDone (Counted A) ls ms → AreSimplified A ls ms
labels_simplified A [] [] fits h = tt
labels_simplified A [] (m ∷ ms) fits h = absurd h
labels_simplified A (l ∷ ls) [] fits h = absurd h
labels_simplified A (l ∷ ls) (m ∷ ms) fits h =
    let names = own_names (defined l.body) h.0.names in
    let done = label_simplified A l m fits.0 h.0 in (
      record {
        params = h.0.params;
        accesses = same_accesses A names l.body m.body done;
        names = names;
        stands = λ x. in-or-out x (defined l.body) (λ e. each_stands A names l.body m.body done x e) (λ e. inl (outside (defined l.body) h.0.names x e));
        lets = lets_answered A names l.body l.body m.body done (λ x p d. d);
      },
      labels_simplified A ls ms fits.1 h.1,
    )

pub flow_simplified : (A : Answers) (ls ms : List Label) → is_flow ls ≡ true → AreDone (Counted A) ls ms → AreSimplified A ls ms
flow_simplified A ls ms e h = labels_simplified A ls ms (all_scoped ls ls (and_parts (list_all (is_label ls) ls) (is_entry (slice_get ls 0)) e).0) h
