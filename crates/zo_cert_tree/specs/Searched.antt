-- trees that a depth-first search gives
use Rattle.std.specs.Prelude.{ℕ, List, Bool, Option, Some, None, ℤ, pos, ◌≤◌, ◌≤ℤ◌, ◌⊎◌, All, slice_index_or}
use Rattle.std.specs.Int.{int_max}
use Rattle.zo_model.specs.Program.{total, where_one, cost_of, Feasible}
use Rattle.zo_model.specs.declared.program.Row.{Row}
use Rattle.zo_model.specs.declared.program.ZeroOne.{ZeroOne}
use Rattle.zo_cert_tree.specs.Certificate.{Tree, leaf, branch, preorder, EachNode, ClosesLeaf, unfixed, HasLeft}
use Rattle.zo_cert_tree.specs.Fixing.{ones}
use Rattle.zo_cert_tree.specs.declared.cert.CertNode.{CertNode}
use Rattle.zo_cert_tree.specs.declared.cert.CertNode.TheVariants.{Branch, Bound, Clash, Left}
use Rattle.zo_cert_tree.specs.declared.cert.Claim.{Claim}
use Rattle.zo_cert_tree.specs.declared.cert.Claim.TheVariants.{Least, Nothing}

-- the most that a term can add: a fixed column adds its own, an unfixed one at most the greater of a and 0
abbrev pub reach_part : Option Bool → ℤ → ℤ
reach_part (Some v) a = where_one v a
reach_part None a = int_max a (pos 0)

-- the reach of a row: the most that its sum can still be
unfoldable pub reach : List (Option Bool) → List (ℕ × ℤ) → ℤ
reach fixed ts = total (λ t. reach_part (slice_index_or fixed t.0 None) t.1) ts

-- the row is not out of reach
abbrev pub IsInReach : List (Option Bool) → Row → Type 0
IsInReach fixed r = r.least ≤ℤ reach fixed r.terms.items

-- the node is met: with 0 for all unfixed columns every row holds
abbrev pub IsMet : ZeroOne → List (Option Bool) → Type 0
IsMet z fixed = Feasible z (ones fixed)

-- the node is open: not met, and each row in reach
pub record IsOpen (z : ZeroOne) (fixed : List (Option Bool)) : Type 0 where
  pub not_met : IsMet z fixed → ⊥
  pub in_reach : All (IsInReach fixed) z.rows.items

-- a branch, or a node that is left, is open
abbrev pub IsOpenWhereOpen : ZeroOne → List (Option Bool) → CertNode → Type 0
IsOpenWhereOpen z fixed (Branch j) = IsOpen z fixed
IsOpenWhereOpen z fixed (Bound d ms) = Unit {0}
IsOpenWhereOpen z fixed (Clash ms) = Unit {0}
IsOpenWhereOpen z fixed Left = IsOpen z fixed

-- where the node is met, its columns cost at least t, or there is no such node
abbrev pub IsNoBetter : ZeroOne → Claim → List (Option Bool) → CertNode → Type 0
IsNoBetter z (Least t) fixed n = IsMet z fixed → t ≤ cost_of z (ones fixed)
IsNoBetter z Nothing fixed n = IsMet z fixed → ⊥

-- a leaf that isn't left closes the claim
abbrev pub IsClosed : ZeroOne → Claim → List (Option Bool) → CertNode → Type 0
IsClosed z claim fixed (Branch j) = Unit {0}
IsClosed z claim fixed (Bound d ms) = ClosesLeaf z claim fixed (Bound d ms)
IsClosed z claim fixed (Clash ms) = ClosesLeaf z claim fixed (Clash ms)
IsClosed z claim fixed Left = Unit {0}

-- the subtree is one node that is left
abbrev pub IsOneLeft : Tree → Type 0
IsOneLeft (leaf Left) = Unit {0}
IsOneLeft (leaf (Branch j)) = ⊥
IsOneLeft (leaf (Bound d ms)) = ⊥
IsOneLeft (leaf (Clash ms)) = ⊥
IsOneLeft (branch j a b) = ⊥

-- the subtree is left at once, or searched to its end
abbrev pub IsLeftOrDone : Tree → Type 0
IsLeftOrDone t = IsOneLeft t ⊎ ¬ (HasLeft (preorder t))

-- of the two arms of each branch one is left at once or searched to its end
abbrev pub GoesDepthFirst : Tree → Type 0
GoesDepthFirst (leaf n) = Unit {0}
GoesDepthFirst (branch j a b) = (IsLeftOrDone a ⊎ IsLeftOrDone b) × GoesDepthFirst a × GoesDepthFirst b

-- a tree is searched for a claim: that the cost of the answer's x is least, or that there is no x
pub record IsSearched (z : ZeroOne) (claim : Claim) (t : Tree) : Type 0 where
  pub open_is_open : EachNode (IsOpenWhereOpen z) (unfixed z) t
  pub x_is_best : EachNode (IsNoBetter z claim) (unfixed z) t
  pub leaves_closed : EachNode (IsClosed z claim) (unfixed z) t
  pub depth_first : GoesDepthFirst t
