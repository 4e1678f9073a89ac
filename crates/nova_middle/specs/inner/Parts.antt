-- What is known of a tree, by what follows each node.
use Rattle.std.specs.Prelude.{◌≡◌, ℕ, ◌≤◌, ⊤, Bool, true, false, List, [], ◌∷◌, All}
use Rattle.std.specs.Borrow.{Bor}
use Rattle.nv_base.specs.declared.term.Atom.{Atom}
use Rattle.nv_base.specs.Sets.{is_in, all_vars}
use Rattle.nv_base.specs.Measures.{operands_wide}
use Rattle.flow_ir.specs.declared.flow.Tree.{Tree as Boxed, size-Tree}
use Rattle.flow_ir.specs.Tree.{Tree, Let, Read, Write, If, Jump, Halt}
use Rattle.flow_ir.specs.View.{tree_view}
use Rattle.flow_ir.specs.Wide.{live, tree_wide}
use Rattle.ssu_make.specs.inner.Making.{tops}
use Rattle.nova_middle.specs.declared.parts.Part.{Part}

-- its live variables and its width are those of a tree
pub record IsPart (p : Part) (t : Tree) : Type 0 where
  pub members : (y : ℕ) → is_in y p.live.xs.items ≡ is_in y (live t)
  pub width : p.width ≡ tree_wide t

-- the same of an end with these operands
pub record IsEndPart (bs : List Atom) (p : Part) : Type 0 where
  pub members : (y : ℕ) → is_in y p.live.xs.items ≡ is_in y (all_vars bs)
  pub width : p.width ≡ operands_wide [] bs

-- ---- spines

-- what follows a node, the second arm of an `If`
abbrev pub after : Tree → Tree
after (Let x a t) = t
after (Read m xs a t) = t
after (Write m a bs t) = t
after (If c a b t u) = u
after (Jump l bs) = Jump l bs
after (Halt e bs) = Halt e bs

abbrev pub is_end : Tree → Bool
is_end (Let x a t) = false
is_end (Read m xs a t) = false
is_end (Write m a bs t) = false
is_end (If c a b t u) = false
is_end (Jump l bs) = true
is_end (Halt e bs) = true

-- this is known of what follows a node
abbrev pub IsRest : Tree → Part → Type 0
IsRest (Let x a t) p = IsPart p t
IsRest (Read m xs a t) p = IsPart p t
IsRest (Write m a bs t) p = IsPart p t
IsRest (If c a b t u) p = IsPart p u
IsRest (Jump l bs) p = ⊤
IsRest (Halt e bs) p = ⊤

-- a tree follows these nodes one after the other, the nearest first, and the last one is t
abbrev pub Chain : Tree → List Tree → Tree → Type 0
Chain s [] t = s ≡ t
Chain s (r ∷ rs) t = (after r ≡ s) × Chain r rs t

-- an end comes first
abbrev pub IsSpine : List Tree → Tree → Type 0
IsSpine [] t = ⊥
IsSpine (s ∷ ss) t = (is_end s ≡ true) × Chain s ss t

pub record IsSpineOf (nodes : List (Bor Boxed)) (t : Boxed) : Type 0 where
  pub spine : IsSpine (tops nodes) (tree_view t)
  pub small : All (λ s. size-Tree s.now ≤ size-Tree t) nodes
