-- What a simplified flow keeps, and what its definitions of variables hold.
use Rattle.std.specs.Prelude.{◌≡◌, ℕ, Bool, true, false, List, [], ◌∷◌, length, ◌++◌, ◌⊎◌, ⊤, All}
use Rattle.nv_base.specs.declared.term.Atom.TheVariants.{Var}
use Rattle.nv_base.specs.declared.term.Mem.{Mem}
use Rattle.nv_base.specs.declared.term.Primitive.{Primitive}
use Rattle.nv_base.specs.declared.term.Primitive.TheVariants.{Same, Una as UnaOf, Bin as BinOf}
use Rattle.nv_base.specs.Sets.{is_in}
use Rattle.flow_ir.specs.Tree.{Tree, Let, Read, Write, If, Jump, Halt, Label}
use Rattle.flow_ir.specs.Wide.{live}
use Rattle.cps_rules.specs.Rules.{Answers, IsAnswered}
use Rattle.flow_ir.specs.Substitution.{Names, prim_renamed}

-- ---- accesses of memory

pub data Access : Type 0 where
  reads : (m : Mem) (xs : List ℕ) → Access
  writes : (m : Mem) (words : ℕ) → Access

-- the accesses that stand in a tree, in the order of the text
abbrev pub accesses : Tree → List Access
accesses (Let x a t) = accesses t
accesses (Read m xs a t) = reads m xs ∷ accesses t
accesses (Write m a bs t) = writes m (length bs) ∷ accesses t
accesses (If c a b t u) = accesses t ++ accesses u
accesses (Jump l bs) = []
accesses (Halt e bs) = []

-- ---- definitions of variables

-- each `Let` of a tree, with its variable, its primitive and what follows, is as P says
abbrev pub EachLet : (ℕ → Primitive → Tree → Type 0) → Tree → Type 0
EachLet P (Let x a t) = P x a t × EachLet P t
EachLet P (Read m xs a t) = EachLet P t
EachLet P (Write m a bs t) = EachLet P t
EachLet P (If c a b t u) = EachLet P t × EachLet P u
EachLet P (Jump l bs) = ⊤
EachLet P (Halt e bs) = ⊤

-- a tree has a `Let` of this variable and this primitive
abbrev pub Defines : ℕ → Primitive → Tree → Type 0
Defines y p (Let x a t) = ((y ≡ x) × (p ≡ a)) ⊎ Defines y p t
Defines y p (Read m xs a t) = Defines y p t
Defines y p (Write m a bs t) = Defines y p t
Defines y p (If c a b t u) = Defines y p t ⊎ Defines y p u
Defines y p (Jump l bs) = ⊥
Defines y p (Halt e bs) = ⊥

abbrev pub is_same : Primitive → Bool
is_same (Same a) = true
is_same (UnaOf op a) = false
is_same (BinOf op a b) = false

-- each variable that a `Let` defines is used after it, and none is just another operand
abbrev pub IsTidy : Tree → Type 0
IsTidy t = EachLet (λ x p rest. (is_in x (live rest) ≡ true) × (is_same p ≡ false)) t

-- ---- labels

-- the second label is the first one simplified: it has the same parameters and accesses, and there is what stands for each variable, so that
-- each `Let` holds an answer for the first label's primitive with that in place, or this primitive where there may be no answer; what stands
-- for a variable is the variable itself, or such an answer that is just an operand
pub record IsSimplified (answers : Answers) (l m : Label) : Type 0 where
  pub params : m.params ≡ l.params
  pub accesses : accesses m.body ≡ accesses l.body
  pub names : Names
  pub stands : (x : ℕ) → (names x ≡ Var x) ⊎ ((p : Primitive) × Defines x p l.body × IsAnswered answers (prim_renamed names p) (Same (names x)))
  pub lets : EachLet (λ x q rest. (p : Primitive) × Defines x p l.body × IsAnswered answers (prim_renamed names p) q) m.body

abbrev pub AreSimplified : Answers → List Label → List Label → Type 0
AreSimplified answers [] [] = ⊤
AreSimplified answers (l ∷ ls) (m ∷ ms) = IsSimplified answers l m × AreSimplified answers ls ms
AreSimplified answers [] (m ∷ ms) = ⊥
AreSimplified answers (l ∷ ls) [] = ⊥

-- each label is tidy
abbrev pub AreTidy : List Label → Type 0
AreTidy labels = All (λ l. IsTidy l.body) labels
