-- The way back, step by step.
use Rattle.std.proofs.Common.{◌≡◌, ℕ, Bool, true, false, ◌||◌, List, [], ◌∷◌, ◌++◌, refl, sym, ap, subst, ◌∙◌, if◌then◌else◌, append-nil}
use Rattle.std.proofs.lemmas.Bool.{or_right}
use Rattle.nv_base.specs.declared.term.Atom.{Atom}
use Rattle.nv_base.specs.declared.term.Primitive.{Primitive}
use Rattle.nv_base.specs.Words.{atom_vars, prim_vars}
use Rattle.nv_base.specs.Sets.{is_in, all_vars, Within}
use Rattle.nv_base.proofs.Sets.{in-append, within-right}
use Rattle.flow_ir.specs.Tree.{Tree, Let}
use Rattle.flow_ir.specs.View.{tree_view}
use Rattle.flow_ir.specs.declared.spine.Step.{Step}
use Rattle.flow_ir.specs.declared.spine.Step.TheVariants as step
use Rattle.flow_ir.specs.Wide.{uses}
use Rattle.cps_rules.specs.inner.Marks.{Set, Adds}
use Rattle.cps_rules.specs.inner.Way.{kept_step, used_in, kept_all, step_uses, first_uses, Covers, AreFirsts}
use Rattle.flow_ir.proofs.Members.{in-right}
use Rattle.cps_rules.proofs.Marking.{adds_both, adds_as}

-- a step before a tree, where what the tree uses and the set are used
abbrev pub kept_one : Set → Step → Tree → Tree
kept_one S s v = kept_step (used_in S v) s v

pub kept_all-append : (S : Set) (ss rs : List Step) (v : Tree) → kept_all S (ss ++ rs) v ≡ kept_all S ss (kept_all S rs v)
kept_all-append S [] rs v = refl
kept_all-append S (s ∷ ss) rs v = ap (kept_one S s) (kept_all-append S ss rs v)

pub kept_last : (S : Set) (ss ss' : List Step) (s : Step) (v : Tree) → ss' ≡ ss ++ s ∷ [] → kept_all S ss' v ≡ kept_all S ss (kept_one S s v)
kept_last S ss ss' s v e = ap (λ l. kept_all S l v) e ∙ kept_all-append S ss (s ∷ []) v

-- ---- first parts

pub firsts_last : (S : Set) (ss : List Step) (s : Step) → AreFirsts S (ss ++ s ∷ []) → AreFirsts S ss × Covers S (first_uses s)
firsts_last S [] s h = (tt, h.0)
firsts_last S (r ∷ ss) s h = let rest = firsts_last S ss s h.1 in ((h.0, rest.0), rest.1)

pub firsts_push : (S : Set) (ss : List Step) (s : Step) → AreFirsts S ss → Covers S (first_uses s) → AreFirsts S (ss ++ s ∷ [])
firsts_push S [] s h c = (c, tt)
firsts_push S (r ∷ ss) s h c = (h.0, firsts_push S ss s h.1 c)

pub firsts_more : (S T : Set) (ss : List Step) → ((y : ℕ) → S y ≡ true → T y ≡ true) → AreFirsts S ss → AreFirsts T ss
firsts_more S T [] more h = tt
firsts_more S T (s ∷ ss) more h = (record { at = λ y e. more y (h.0.at y e) }, firsts_more S T ss more h.1)

-- ---- what is used stays used

either_more : (b : Bool) (x : ℕ) (a : Primitive) (v : Tree) → Within (uses v) (uses (if b then Let x a v else v))
either_more true x a v = within-right (prim_vars a) (uses v)
either_more false x a v = λ y e. e

pub step_more : (M : Set) (s : Step) (v : Tree) → Within (uses v) (uses (kept_step M s v))
step_more M (step.Let x a) v = either_more (M x) x a v
step_more M (step.Read m xs a) v = within-right (atom_vars a) (uses v)
step_more M (step.Write m a bs) v = within-right (all_vars (a ∷ bs.items)) (uses v)
step_more M (step.If c a b u) v = λ y e. in-right y (all_vars (a ∷ b ∷ [])) (uses (tree_view u) ++ uses v) (in-right y (uses (tree_view u)) (uses v) e)

pub all_more : (S : Set) (ss : List Step) (v : Tree) → Within (uses v) (uses (kept_all S ss v))
all_more S [] v = λ y e. e
all_more S (s ∷ ss) v = λ y e. step_more (used_in S (kept_all S ss v)) s (kept_all S ss v) y (all_more S ss v y e)

-- ---- marks

before_at : (p q s : Bool) → (p || (q || s)) ≡ ((p || q) || s)
before_at true q s = refl
before_at false q s = refl

pub adds_before : {xs ys : List ℕ} {S T U : Set} → Adds xs S T → Adds ys T U → Adds (ys ++ xs) S U
adds_before {xs} {ys} {S} {T} {U} a b = record {
  at = λ y. b.at y ∙ ap (λ e. is_in y ys || e) (a.at y) ∙ before_at (is_in y ys) (is_in y xs) (S y) ∙ ap (λ e. e || S y) (sym (in-append y ys xs));
}

covered_at : (e s : Bool) → (e ≡ true → s ≡ true) → s ≡ (e || s)
covered_at true s h = h refl
covered_at false s h = refl

inner_at : (f t s : Bool) → (f ≡ true → s ≡ true) → (t || s) ≡ ((f || t) || s)
inner_at true t s h = ap (λ b. t || b) (h refl) ∙ or_right t true refl
inner_at false t s h = refl

-- what is covered already
pub adds_covered : {S : Set} {xs : List ℕ} → Covers S xs → Adds xs S S
adds_covered {S} {xs} c = record { at = λ y. covered_at (is_in y xs) (S y) (c.at y) }

pub adds_inner : {S M : Set} {xs ys : List ℕ} → Covers S xs → Adds ys S M → Adds (xs ++ ys) S M
adds_inner {S} {M} {xs} {ys} c a = record { at = λ y. a.at y ∙ inner_at (is_in y xs) (is_in y ys) (S y) (c.at y) ∙ ap (λ e. e || S y) (sym (in-append y xs ys)) }

pub adds_two : {S T U : Set} (a b : Atom) → Adds (atom_vars a) S T → Adds (atom_vars b) T U → Adds (all_vars (a ∷ b ∷ [])) S U
adds_two a b p q = adds_as (λ y. ap (λ l. is_in y (atom_vars a ++ l)) (append-nil (atom_vars b))) (adds_both p q)

marked_let : (g : Bool) (x : ℕ) (a : Primitive) (t : Tree) (S M N : Set) → Adds (uses t) S M → Adds (if g then prim_vars a else []) M N → Adds (uses (if g then Let x a t else t)) S N
marked_let true x a t S M N p q = adds_before p q
marked_let false x a t S M N p q = adds_before p q

pub marked_step : (S M N : Set) (s : Step) (t : Tree) → Covers S (first_uses s) → Adds (uses t) S M → Adds (step_uses M s) M N → Adds (uses (kept_step M s t)) S N
marked_step S M N (step.Let x a) t c p q = marked_let (M x) x a t S M N p q
marked_step S M N (step.Read m xs a) t c p q = adds_before p q
marked_step S M N (step.Write m a bs) t c p q = adds_before p q
marked_step S M N (step.If k a b u) t c p q = adds_before (adds_inner c p) q

same_step : (M N : Set) (s : Step) (t : Tree) → ((y : ℕ) → M y ≡ N y) → kept_step M s t ≡ kept_step N s t
same_step M N (step.Let x a) t e = ap (λ g. if g then Let x a t else t) (e x)
same_step M N (step.Read m xs a) t e = refl
same_step M N (step.Write m a bs) t e = refl
same_step M N (step.If c a b u) t e = refl

-- ---- the loop

pub record Coming (S : Set) (ss0 : List Step) (t0 : Tree) (ss : List Step) (t : Tree) (M : Set) : Type 0 where
  pub tree : kept_all S ss t ≡ kept_all S ss0 t0
  pub marked : Adds (uses t) S M
  pub firsts : AreFirsts S ss

pub coming_start : (S : Set) (ss : List Step) (t : Tree) → AreFirsts S ss → Covers S (uses t) → Coming S ss t ss t S
coming_start S ss t f c = record { tree = refl; marked = adds_covered c; firsts = f }

pub coming_step : {S : Set} {ss0 : List Step} {t0 : Tree} {ss : List Step} {t : Tree} {M : Set} (ss' : List Step) (s : Step) (u : Tree) (N : Set) → Coming S ss0 t0 ss t M → ss ≡ ss' ++ s ∷ [] → u ≡ kept_step M s t → Adds (step_uses M s) M N → Coming S ss0 t0 ss' u N
coming_step {S} {ss0} {t0} {ss} {t} {M} ss' s u N h e eu added =
    let parts = firsts_last S ss' s (subst (AreFirsts S) e h.firsts) in
    record {
      tree = ap (kept_all S ss') (eu ∙ same_step M (used_in S t) s t (λ y. h.marked.at y)) ∙ sym (kept_last S ss' ss s t e) ∙ h.tree;
      marked = subst (λ v. Adds (uses v) S N) (sym eu) (marked_step S M N s t parts.1 h.marked added);
      firsts = parts.0;
    }

pub coming_tree : {S : Set} {ss0 : List Step} {t0 : Tree} {ss : List Step} {t : Tree} {M : Set} → Coming S ss0 t0 ss t M → ss ≡ [] → t ≡ kept_all S ss0 t0
coming_tree {S} {t = t} h e = sym (ap (λ l. kept_all S l t) e) ∙ h.tree
