-- Where a walk over a tree has come.
use Rattle.std.specs.Prelude.{◌≡◌, ℕ, ◌+◌, ◌<◌, ◌≤◌, Bool, true, false, List, [], ◌∷◌, ◌++◌}
use Rattle.nv_base.specs.declared.term.Atom.{Atom}
use Rattle.nv_base.specs.declared.term.Atom.TheVariants.{Var}
use Rattle.nv_base.specs.declared.term.Una.TheVariants.{Shr, Rol}
use Rattle.nv_base.specs.declared.term.Bin.TheVariants.{Add}
use Rattle.nv_base.specs.declared.term.Primitive.{Primitive}
use Rattle.nv_base.specs.declared.term.Primitive.TheVariants.{Una as UnaOf, Bin as BinOf}
use Rattle.flow_ir.specs.Tree.{Tree}
use Rattle.flow_ir.specs.Spine.{put_all}
use Rattle.flow_ir.specs.declared.spine.Step.{Step}
use Rattle.flow_ir.specs.declared.spine.Step.TheVariants as step
use Rattle.flow_words.specs.declared.state.Known.{Known}
use Rattle.flow_words.specs.declared.walk.State.{State}
use Rattle.flow_words.specs.Tables.{Table, look, with_known, with_all, itself, is_settled}
use Rattle.nv_base.specs.Words.{HasPrimCount}
use Rattle.flow_words.specs.Bits.{IsNeeded}
use Rattle.flow_words.specs.Definitions.{of_prim}
use Rattle.flow_words.specs.inner.Undone.{undone}
use Rattle.flow_words.specs.inner.Reduced.{HasWord, Reduced, AreNew}

-- what is known, what was known at first, the steps before what is left, and whether all checks were passed
pub record Place : Type 0 where
  pub base : ℕ
  pub table : Table
  pub before : Table
  pub fresh : ℕ
  pub steps : List Step
  pub sound : Bool

abbrev pub place : State → List (ℕ × Known) → List Step → Place
place s saved steps = record { base = s.base; table = look s.table.items; before = undone saved (look s.table.items); fresh = s.fresh; steps = steps; sound = s.sound }

-- a definition more stands behind the steps
pub record IsPlaced (x : ℕ) (q : Primitive) (v w : Place) : Type 0 where
  pub base : w.base ≡ v.base
  pub fresh : w.fresh ≡ v.fresh
  pub before : w.before ≡ v.before
  pub table : w.table ≡ with_known v.table x (of_prim v.table q)
  pub steps : w.steps ≡ v.steps ++ step.Let x q ∷ []
  pub sound : w.sound ≡ true → (v.sound ≡ true) × ((v.table x).live ≡ false) × (is_settled v.table q ≡ true)

-- the next variable that isn't the tree's own is defined
pub record IsExtra (n : ℕ) (q : Primitive) (v w : Place) : Type 0 where
  pub base : w.base ≡ v.base
  pub first : n ≡ v.fresh
  pub fresh : w.fresh ≡ v.fresh + 1
  pub before : w.before ≡ v.before
  pub table : w.table ≡ with_known v.table n (of_prim v.table q)
  pub steps : w.steps ≡ v.steps ++ step.Let n q ∷ []
  pub sound : w.sound ≡ true → (v.sound ≡ true) × (v.base ≤ n) × ((v.table n).live ≡ false) × (is_settled v.table q ≡ true)

-- a variable of the tree is defined
pub record IsKept (x : ℕ) (q : Primitive) (v w : Place) : Type 0 where
  pub base : w.base ≡ v.base
  pub fresh : w.fresh ≡ v.fresh
  pub before : w.before ≡ v.before
  pub table : w.table ≡ with_known v.table x (of_prim v.table q)
  pub steps : w.steps ≡ v.steps ++ step.Let x q ∷ []
  pub sound : w.sound ≡ true → (v.sound ≡ true) × (x < v.base) × ((v.table x).live ≡ false) × (is_settled v.table q ≡ true)

-- x is the upper half of the sum of s and of s with its halves exchanged
pub record IsFoldedBy (x : ℕ) (s : Atom) (v w : Place) : Type 0 where
  pub turned : ℕ
  pub sum : ℕ
  pub second : Place
  pub third : Place
  pub one : IsExtra turned (UnaOf (Rol 16) s) v second
  pub two : IsExtra sum (BinOf Add s (Var turned)) second third
  pub own : IsKept x (UnaOf (Shr 16) (Var sum)) third w

-- x is as some primitive that is needed and has p's word
pub record IsChosen (x : ℕ) (p : Primitive) (v w : Place) : Type 0 where
  pub made : Primitive
  pub needed : IsNeeded v.table made
  pub word : HasPrimCount p → HasWord v.table p made
  pub own : IsKept x made v w

-- a variable comes into scope
pub record IsEntered (x : ℕ) (v w : Place) : Type 0 where
  pub base : w.base ≡ v.base
  pub fresh : w.fresh ≡ v.fresh
  pub before : w.before ≡ v.before
  pub table : w.table ≡ with_known v.table x (itself x)
  pub sound : w.sound ≡ true → (v.sound ≡ true) × (x < v.base) × ((v.table x).live ≡ false)

-- so do these
pub record AreEntered (xs : List ℕ) (v w : Place) : Type 0 where
  pub base : w.base ≡ v.base
  pub fresh : w.fresh ≡ v.fresh
  pub before : w.before ≡ v.before
  pub table : w.table ≡ with_all v.table xs
  pub sound : w.sound ≡ true → (v.sound ≡ true) × AreNew v.base v.table xs

-- what was to be done is done where what is left is
pub record Goes (P : Table → Primitive → Type 0) (v : Place) (t : Tree) (w : Place) (u : Tree) : Type 0 where
  pub base : w.base ≡ v.base
  pub before : w.before ≡ v.before
  pub sound : w.sound ≡ true → v.sound ≡ true
  pub on : w.sound ≡ true → (r : Tree) (k : ℕ) → Reduced P v.base w.table w.fresh u r k → (s : Tree) × Reduced P v.base v.table v.fresh t s k × (put_all w.steps r ≡ put_all v.steps s)

-- a tree was done
pub record IsDone (P : Table → Primitive → Type 0) (v : State) (t u : Tree) (w : State) : Type 0 where
  pub base : w.base ≡ v.base
  pub table : look w.table.items ≡ look v.table.items
  pub sound : w.sound ≡ true → v.sound ≡ true
  pub tree : w.sound ≡ true → Reduced P v.base (look v.table.items) v.fresh t u w.fresh
