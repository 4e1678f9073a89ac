-- trees of branches whose leaves are closed by a bound, and what they prove of every 0-1 vector
use Rattle.std.specs.Prelude.{◌≡◌, ℕ, ◌+◌, ◌*◌, ◌≤◌, List, [], ◌∷◌, ◌++◌, length, Bool, true, false, ℤ, pos, ◌+ℤ◌, ◌-ℤ◌, ◌*ℤ◌, ◌<ℤ◌, nat_eq, slice_get, slice_set, slice_index, slice_index_or, Option, Some, None, replicate}
use Rattle.std.specs.Int.{int_min}
use Rattle.zo_model.specs.Program.{total, sum_below, where_one, columns, cost_of, Feasible, Rise}
use Rattle.zo_model.specs.declared.program.Row.{Row}
use Rattle.zo_model.specs.declared.program.ZeroOne.{ZeroOne}
use Rattle.zo_cert_tree.specs.declared.cert.Cert.{Cert}
use Rattle.zo_cert_tree.specs.declared.cert.CertNode.{CertNode}
use Rattle.zo_cert_tree.specs.declared.cert.CertNode.TheVariants.{Branch, Bound, Clash, Left}
use Rattle.zo_cert_tree.specs.declared.cert.Claim.{Claim}
use Rattle.zo_cert_tree.specs.declared.cert.Claim.TheVariants.{Least, Nothing}

-- ---- claims

-- what a claim says of one vector that meets the rows: it costs at least t, or there is none
abbrev pub ClaimAt : ZeroOne → (ℕ → Bool) → Claim → Type 0
ClaimAt z x (Least t) = t ≤ cost_of z x
ClaimAt z x Nothing = ⊥

-- a claim holds where it does so of every 0-1 vector that meets the rows
abbrev pub Holds : ZeroOne → Claim → Type 0
Holds z claim = (x : ℕ → Bool) → Feasible z x → ClaimAt z x claim

-- ---- the bound of a leaf

-- the terms of a row that is there
abbrev pub terms_of : Option Row → List (ℕ × ℤ)
terms_of (Some r) = r.terms.items
terms_of None = []

-- the least of a row that is there
abbrev pub least_of : Option Row → ℤ
least_of (Some r) = r.least
least_of None = pos 0

-- the coefficient of the column j
unfoldable pub coefficient : List (ℕ × ℤ) → ℕ → ℤ
coefficient ts j = total (λ t. where_one (nat_eq t.0 j) t.1) ts

-- the weight of the column j: the sum of its multiplied coefficients
unfoldable pub weight : ZeroOne → List (ℕ × ℕ) → ℕ → ℤ
weight z ms j = total (λ m. pos m.1 *ℤ coefficient (terms_of (slice_get z.rows.items m.0)) j) ms

-- the sum of the multiplied leasts
unfoldable pub least_sum : ZeroOne → List (ℕ × ℕ) → ℤ
least_sum z ms = total (λ m. pos m.1 *ℤ least_of (slice_get z.rows.items m.0)) ms

-- the least of a * v, over the values v that the column may have
abbrev pub least_part : Option Bool → ℤ → ℤ
least_part (Some v) a = where_one v a
least_part None a = int_min a (pos 0)

-- what one column adds to the bound
abbrev pub column_part : ZeroOne → ℕ → List (ℕ × ℕ) → List (Option Bool) → ℕ → ℤ
column_part z d ms fixed j =
    least_part (slice_index_or fixed j None) (pos (d * slice_index z.costs.items j) -ℤ weight z ms j)

-- no vector within the fixing that meets the rows costs less than this, divided by d
unfoldable pub bound : ZeroOne → ℕ → List (ℕ × ℕ) → List (Option Bool) → ℤ
bound z d ms fixed = least_sum z ms +ℤ sum_below (columns z) (column_part z d ms fixed)

-- the rows that the multipliers name rise and are there
abbrev pub NamesRows : ZeroOne → List (ℕ × ℕ) → Type 0
NamesRows z ms = Rise 0 (length z.rows.items) ms

-- the node is a leaf that closes the claim, with these columns fixed
abbrev pub ClosesLeaf : ZeroOne → Claim → List (Option Bool) → CertNode → Type 0
ClosesLeaf z claim fixed (Branch j) = ⊥
ClosesLeaf z (Least t) fixed (Bound d ms) =
    NamesRows z ms.items × ((pos d *ℤ (pos t -ℤ pos 1)) <ℤ bound z d ms.items fixed)
ClosesLeaf z Nothing fixed (Bound d ms) = ⊥
ClosesLeaf z claim fixed (Clash ms) = NamesRows z ms.items × (pos 0 <ℤ bound z 0 ms.items fixed)
ClosesLeaf z claim fixed Left = ⊥

-- the rows that the node names, if any, rise and are there
abbrev pub NamesItsRows : ZeroOne → CertNode → Type 0
NamesItsRows z (Branch j) = Unit {0}
NamesItsRows z (Bound d ms) = NamesRows z ms.items
NamesItsRows z (Clash ms) = NamesRows z ms.items
NamesItsRows z Left = Unit {0}

-- the same, whatever columns are fixed
abbrev pub IsWellNamed : ZeroOne → List (Option Bool) → CertNode → Type 0
IsWellNamed z fixed n = NamesItsRows z n

-- ---- trees

pub data Tree : Type 0 where
  leaf : CertNode → Tree
  branch : ℕ → Tree → Tree → Tree

-- the nodes, the arm of value 0 first
abbrev pub preorder : Tree → List CertNode
preorder (leaf n) = n ∷ []
preorder (branch j a b) = Branch j ∷ (preorder a ++ preorder b)

-- the node is no branch
abbrev pub IsLeaf : CertNode → Type 0
IsLeaf (Branch j) = ⊥
IsLeaf (Bound d ms) = Unit {0}
IsLeaf (Clash ms) = Unit {0}
IsLeaf Left = Unit {0}

-- each branch is on a column that is unfixed above it, and each node has P with the columns fixed above it
abbrev pub EachNode : (List (Option Bool) → CertNode → Type 0) → List (Option Bool) → Tree → Type 0
EachNode P fixed (leaf n) = IsLeaf n × P fixed n
EachNode P fixed (branch j a b) =
    (slice_get fixed j ≡ Some None) × P fixed (Branch j)
    × EachNode P (slice_set fixed j (Some false)) a × EachNode P (slice_set fixed j (Some true)) b

-- P of a leaf, and nothing of a branch
abbrev pub OfLeaf : (List (Option Bool) → CertNode → Type 0) → List (Option Bool) → CertNode → Type 0
OfLeaf P fixed (Branch j) = Unit {0}
OfLeaf P fixed (Bound d ms) = P fixed (Bound d ms)
OfLeaf P fixed (Clash ms) = P fixed (Clash ms)
OfLeaf P fixed Left = P fixed Left

-- no column is fixed
abbrev pub unfixed : ZeroOne → List (Option Bool)
unfixed z = replicate (columns z) None

-- a tree proves a claim where each leaf is closed for it
abbrev pub Proves : ZeroOne → Tree → Claim → Type 0
Proves z t claim = EachNode (OfLeaf (ClosesLeaf z claim)) (unfixed z) t

-- a tree is shaped where it branches on unfixed columns and names rows that rise and are there
abbrev pub IsShaped : ZeroOne → Tree → Type 0
IsShaped z t = EachNode (IsWellNamed z) (unfixed z) t

-- ---- certificates

-- the certificate is the preorder of a tree with P
abbrev pub IsTreeWith : (Tree → Type 0) → Cert → Type 0
IsTreeWith P c = (t : Tree) × (preorder t ≡ c.nodes.items) × P t

-- how many nodes branch
abbrev pub branches : List CertNode → ℕ
branches [] = 0
branches (Branch j ∷ ns) = 1 + branches ns
branches (Bound d ms ∷ ns) = branches ns
branches (Clash ms ∷ ns) = branches ns
branches (Left ∷ ns) = branches ns

-- some node is left open
abbrev pub HasLeft : List CertNode → Type 0
HasLeft [] = ⊥
HasLeft (Branch j ∷ ns) = HasLeft ns
HasLeft (Bound d ms ∷ ns) = HasLeft ns
HasLeft (Clash ms ∷ ns) = HasLeft ns
HasLeft (Left ∷ ns) = Unit {0}
