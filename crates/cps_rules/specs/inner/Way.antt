-- How a tree is simplified: on the way down with names in place, on the way back without the definitions that nothing uses.
use Rattle.std.specs.Prelude.{◌≡◌, ℕ, true, false, ◌||◌, if◌then◌else◌, List, [], ◌∷◌, ◌++◌, ◌⊎◌, ⊤}
use Rattle.nv_base.specs.declared.term.Mem.{Mem}
use Rattle.nv_base.specs.declared.term.Atom.{Atom}
use Rattle.nv_base.specs.declared.term.Atom.TheVariants.{Var}
use Rattle.nv_base.specs.declared.term.Cmp.{Cmp}
use Rattle.nv_base.specs.declared.term.Primitive.{Primitive}
use Rattle.nv_base.specs.declared.term.Primitive.TheVariants.{Same}
use Rattle.nv_base.specs.Words.{atom_vars, prim_vars, HasPrimCount}
use Rattle.nv_base.specs.Sets.{is_in, all_vars, Within}
use Rattle.flow_ir.specs.Tree.{Tree, Let, Read, Write, If, Jump, Halt, Label}
use Rattle.flow_ir.specs.Formed.{defined}
use Rattle.flow_ir.specs.declared.spine.Step.{Step}
use Rattle.flow_ir.specs.declared.spine.Step.TheVariants as step
use Rattle.flow_ir.specs.Spine.{put}
use Rattle.flow_ir.specs.View.{tree_view}
use Rattle.cps_rules.specs.Rules.{Answers, IsAnswered}
use Rattle.flow_ir.specs.Substitution.{Names, renamed, all_renamed, prim_renamed, IsNamed}
use Rattle.flow_ir.specs.Wide.{uses}
use Rattle.flow_ir.specs.inner.Scoped.{Fits}
use Rattle.cps_rules.specs.Simplified.{is_same, EachLet}
use Rattle.cps_rules.specs.inner.Marks.{Set, Adds}

-- ---- what is answered

-- the answers for primitives that may stand in a program
abbrev pub Counted : Answers → Answers
Counted A p a = HasPrimCount p × A p a

-- ---- the whole way

-- the second tree is the first one simplified, where σ stands for the variables
pub data Simplified (A : Answers) (σ : Names) : Tree → Tree → Type 0 where
  same : (x : ℕ) (p : Primitive) (a : Atom) (t u : Tree) → IsAnswered A (prim_renamed σ p) (Same a) → σ x ≡ a → Simplified A σ t u → Simplified A σ (Let x p t) u
  kept : (x : ℕ) (p q : Primitive) (t u : Tree) → IsAnswered A (prim_renamed σ p) q → is_same q ≡ false → σ x ≡ Var x → Simplified A σ t u → Simplified A σ (Let x p t) (Let x q u)
  dropped : (x : ℕ) (p q : Primitive) (t u : Tree) → IsAnswered A (prim_renamed σ p) q → σ x ≡ Var x → is_in x (uses u) ≡ false → Simplified A σ t u → Simplified A σ (Let x p t) u
  read : (m : Mem) (xs : List ℕ) (a : Atom) (t u : Tree) → ((y : ℕ) → is_in y xs ≡ true → σ y ≡ Var y) → Simplified A σ t u → Simplified A σ (Read m xs a t) (Read m xs (renamed σ a) u)
  write : (m : Mem) (a : Atom) (bs : List Atom) (t u : Tree) → Simplified A σ t u → Simplified A σ (Write m a bs t) (Write m (renamed σ a) (all_renamed σ bs) u)
  choice : (c : Cmp) (a b : Atom) (t u t' u' : Tree) → Simplified A σ t t' → Simplified A σ u u' → Simplified A σ (If c a b t u) (If c (renamed σ a) (renamed σ b) t' u')
  jump : (l : ℕ) (bs : List Atom) → Simplified A σ (Jump l bs) (Jump l (all_renamed σ bs))
  halt : (e : ℕ) (bs : List Atom) → Simplified A σ (Halt e bs) (Halt e (all_renamed σ bs))

-- ---- the way down

-- what comes of a `Let` on the way down
pub record IsFolded (A : Answers) (x : ℕ) (p : Primitive) (σ τ : Names) (ss ss' : List Step) : Type 0 where
  pub answer : Primitive
  pub answered : IsAnswered A (prim_renamed σ p) answer
  pub how : ((a : Atom) × (answer ≡ Same a) × IsNamed σ x a τ × (ss' ≡ ss)) ⊎ ((is_same answer ≡ false) × IsNamed σ x (Var x) τ × (ss' ≡ ss ++ step.Let x answer ∷ []))

-- ---- the way back

-- a step before a tree, where these variables are used; a `Let` that nothing uses is left out
abbrev pub kept_step : Set → Step → Tree → Tree
kept_step used (step.Let x a) t = if used x then Let x a t else t
kept_step used (step.Read m xs a) t = put (step.Read m xs a) t
kept_step used (step.Write m a bs) t = put (step.Write m a bs) t
kept_step used (step.If c a b u) t = put (step.If c a b u) t

-- those that are used in a tree or elsewhere
abbrev pub used_in : Set → Tree → Set
used_in S t x = is_in x (uses t) || S x

abbrev pub kept_all : Set → List Step → Tree → Tree
kept_all S [] t = t
kept_all S (s ∷ ss) t = let u = kept_all S ss t in kept_step (used_in S u) s u

-- what a step uses by itself
abbrev pub step_uses : Set → Step → List ℕ
step_uses used (step.Let x a) = if used x then prim_vars a else []
step_uses used (step.Read m xs a) = atom_vars a
step_uses used (step.Write m a bs) = all_vars (a ∷ bs.items)
step_uses used (step.If c a b u) = all_vars (a ∷ b ∷ [])

-- what the first part of a step uses
abbrev pub first_uses : Step → List ℕ
first_uses (step.Let x a) = []
first_uses (step.Read m xs a) = []
first_uses (step.Write m a bs) = []
first_uses (step.If c a b u) = uses (tree_view u)

-- all of these are in the set
pub record Covers (S : Set) (xs : List ℕ) : Type 0 where
  pub at : (y : ℕ) → is_in y xs ≡ true → S y ≡ true

-- all that first parts use is in the set
abbrev pub AreFirsts : Set → List Step → Type 0
AreFirsts S [] = ⊤
AreFirsts S (s ∷ ss) = Covers S (first_uses s) × AreFirsts S ss

-- ---- what the way rests on

-- a tree may be simplified with these names and these marks
pub record IsScoped (σ : Names) (S : Set) (t : Tree) : Type 0 where
  pub known : List ℕ
  pub fits : Fits known t
  pub own : (x : ℕ) → is_in x known ≡ true → Within (atom_vars (σ x)) known
  pub unmarked : (x : ℕ) → is_in x (defined t) ≡ true → S x ≡ false

-- each variable that a `Let` defines is used somewhere after it, and none is just another operand
abbrev pub AreUsed : Tree → Type 0
AreUsed t = EachLet (λ x p rest. (is_in x (uses rest) ≡ true) × (is_same p ≡ false)) t

-- a tree was simplified, where σ and S became τ and T
pub record IsDone (A : Answers) (t : Tree) (σ τ : Names) (S T : Set) (u : Tree) : Type 0 where
  pub simplified : Simplified A τ t u
  pub named : (y : ℕ) → is_in y (defined t) ≡ false → τ y ≡ σ y
  pub marked : Adds (uses u) S T
  pub used : AreUsed u

-- ---- labels

pub record IsLabelDone (A : Answers) (l m : Label) : Type 0 where
  pub params : m.params ≡ l.params
  pub names : Names
  pub own : (x : ℕ) → is_in x l.params ≡ true → names x ≡ Var x
  pub simplified : Simplified A names l.body m.body
  pub used : AreUsed m.body

abbrev pub AreDone : Answers → List Label → List Label → Type 0
AreDone A [] [] = ⊤
AreDone A (l ∷ ls) (m ∷ ms) = IsLabelDone A l m × AreDone A ls ms
AreDone A [] (m ∷ ms) = ⊥
AreDone A (l ∷ ls) [] = ⊥
