-- How parameters go, with the words that jumps hand on for them.
use Rattle.std.specs.Prelude.{◌≡◌, ℕ, suc, true, false, if◌then◌else◌, List, [], ◌∷◌, Option, Some, None, slice_get, ⊤}
use Rattle.std.specs.declared.vec.Vec.{Vec}
use Rattle.std.specs.declared.alloc.Global.{Global}
use Rattle.nv_base.specs.Sets.{is_in, without}
use Rattle.flow_ir.specs.Tree.{Tree, Let, Read, Write, If, Jump, Halt, Label}
use Rattle.flow_ir.specs.Wide.{uses}

-- the parameters that go, of each label
abbrev pub row_of : Option (Vec ℕ Global) → List ℕ
row_of (Some row) = row.items
row_of None = []

abbrev pub gone_of : List (Vec ℕ Global) → ℕ → List ℕ
gone_of table l = row_of (slice_get table l)

-- the words for those of the parameters that stay
abbrev pub kept_words : {T : Type 0} → List ℕ → List ℕ → List T → List T
kept_words gone [] bs = []
kept_words gone (p ∷ ps) [] = []
kept_words gone (p ∷ ps) (b ∷ bs) = if is_in p gone then kept_words gone ps bs else b ∷ kept_words gone ps bs

abbrev pub params_in : Option Label → List ℕ
params_in (Some l) = l.params
params_in None = []

-- a tree whose jumps hand on the words for the parameters that stay
abbrev pub pruned : List Label → (ℕ → List ℕ) → Tree → Tree
pruned labels gone (Let x p t) = Let x p (pruned labels gone t)
pruned labels gone (Read m xs a t) = Read m xs a (pruned labels gone t)
pruned labels gone (Write m a bs t) = Write m a bs (pruned labels gone t)
pruned labels gone (If c a b t u) = If c a b (pruned labels gone t) (pruned labels gone u)
pruned labels gone (Jump l bs) = Jump l (kept_words (gone l) (params_in (slice_get labels l)) bs)
pruned labels gone (Halt e bs) = Halt e bs

-- none of these is among those that go
abbrev pub Clear : List ℕ → List ℕ → Type 0
Clear gone xs = (y : ℕ) → is_in y xs ≡ true → is_in y gone ≡ false

-- the second label is the first one, of number i, without its parameters that go
pub record IsPruned (labels : List Label) (gone : ℕ → List ℕ) (i : ℕ) (l m : Label) : Type 0 where
  pub params : m.params ≡ without l.params (gone i)
  pub body : m.body ≡ pruned labels gone l.body
  pub clear : Clear (gone i) (uses m.body)

-- all of these from number i on
abbrev pub ArePruned : List Label → (ℕ → List ℕ) → ℕ → List Label → List Label → Type 0
ArePruned labels gone i [] [] = ⊤
ArePruned labels gone i (l ∷ ls) (m ∷ ms) = IsPruned labels gone i l m × ArePruned labels gone (suc i) ls ms
ArePruned labels gone i [] (m ∷ ms) = ⊥
ArePruned labels gone i (l ∷ ls) [] = ⊥
