-- what each node of a searched tree keeps
use Rattle.std.specs.Prelude.{◌≡◌, ℕ, ◌+◌, List, [], ◌∷◌, ◌++◌, Bool, Option}
use Rattle.zo_model.specs.declared.program.ZeroOne.{ZeroOne}
use Rattle.zo_cert_tree.specs.inner.Path.{Pending}
use Rattle.zo_cert_tree.specs.Node.{IsNode}
use Rattle.zo_cert_tree.specs.Searched.{IsOpenWhereOpen, IsNoBetter, IsClosed}
use Rattle.zo_cert_tree.specs.inner.Walk.{MayCome, after}
use Rattle.zo_cert_tree.specs.declared.cert.CertNode.{CertNode}
use Rattle.zo_cert_tree.specs.declared.cert.CertNode.TheVariants.{Branch, Bound, Clash, Left}
use Rattle.zo_cert_tree.specs.declared.cert.Claim.{Claim}
use Rattle.zo_solve_branch.specs.Nodes.{IsPicked, IsBelow}

-- all that a node of a searched tree keeps
pub record IsGood (z : ZeroOne) (start : Option ℕ) (answers : List (Option Bool) → ℕ → Type 0) (claim : Claim) (fixed : List (Option Bool)) (n : CertNode) : Type 0 where
  pub open_is_open : IsOpenWhereOpen z fixed n
  pub no_better : IsNoBetter z claim fixed n
  pub closed : IsClosed z claim fixed n
  pub within : IsNode n
  pub picked : IsPicked answers fixed n
  pub below : IsBelow z start fixed n

-- the node is put after the others, and the walk goes on
pub record Puts (node : CertNode) (old new : Pending) (ns ns' : List CertNode) : Type 0 where
  pub longer : ns' ≡ ns ++ node ∷ []
  pub next : new ≡ record old { fixings = after old.fixings node }

-- a leaf of no row, over 1
abbrev pub IsPlainBound : CertNode → Type 0
IsPlainBound (Bound d ms) = (d ≡ 1) × (ms.items ≡ [])
IsPlainBound (Branch j) = ⊥
IsPlainBound (Clash ms) = ⊥
IsPlainBound Left = ⊥

-- a leaf of this row, with multiplier 1
abbrev pub IsClashOf : ℕ → CertNode → Type 0
IsClashOf i (Clash ms) = ms.items ≡ (i, 1) ∷ []
IsClashOf i (Bound d ms) = ⊥
IsClashOf i (Branch j) = ⊥
IsClashOf i Left = ⊥

-- how many branches may still come after the node: it is left only where none may
abbrev pub Leaves : CertNode → ℕ → ℕ → Type 0
Leaves (Branch j) left rest = left ≡ rest + 1
Leaves (Bound d ms) left rest = rest ≡ left
Leaves (Clash ms) left rest = rest ≡ left
Leaves Left left rest = (left ≡ 0) × (rest ≡ 0)

-- one node more, in its place, with P
pub record Steps (P : List (Option Bool) → CertNode → Type 0) (fs fs' : List (List (Option Bool))) (ns ns' : List CertNode) (left rest : ℕ) : Type 0 where
  pub node : CertNode
  pub longer : ns' ≡ ns ++ node ∷ []
  pub may : MayCome P fs node
  pub next : fs' ≡ after fs node
  pub leaves : Leaves node left rest
