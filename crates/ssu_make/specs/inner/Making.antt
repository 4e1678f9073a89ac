-- What the steps of making a form say of builders, counts and trees.
use Rattle.std.specs.Prelude.{◌≡◌, ℕ, ◌+◌, ◌≤◌, ⊤, List, [], ◌∷◌, ◌++◌, map, reverse}
use Rattle.std.specs.Borrow.{Bor}
use Rattle.nv_base.specs.declared.term.Atom.{Atom}
use Rattle.flow_ir.specs.declared.flow.Tree.{Tree as Boxed}
use Rattle.flow_ir.specs.Tree.{Tree, Let, Read, Write, If, Jump, Halt, Label}
use Rattle.flow_ir.specs.View.{tree_view}
use Rattle.ssu_ir.specs.declared.build.SsuBuild.{SsuBuild}
use Rattle.ssu_ir.specs.declared.node.SsuLabel.{SsuLabel}
use Rattle.ssu_ir.specs.Build.{Rooted, Holds, ids, trees_of}
use Rattle.ssu_ir.specs.Slots.{bodies}
use Rattle.ssu_ir.specs.Tree as ssu
use Rattle.ssu_ir.specs.View.{with_bodies}
use Rattle.ssu_make.specs.declared.counts.Counts.{Counts}
use Rattle.ssu_make.specs.declared.tree.Part.{Part}
use Rattle.ssu_make.specs.Uses as number
use Rattle.ssu_make.specs.Uses.{kept, operands, uses}
use Rattle.ssu_make.specs.Made.{spent, made, Laid, IsMade, AllMade}

-- the numbers
abbrev pub counted : Counts → number.Counts
counted c = kept c.map

-- ---- builders

-- it has some roots
pub record HasRoots (b : SsuBuild) : Type 0 where
  pub roots : List Rooted
  pub holds : Holds b roots

-- this number is a root's
pub record IsRoot (b : SsuBuild) (i : ℕ) : Type 0 where
  pub tree : ssu.Tree
  pub rest : List Rooted
  pub holds : Holds b ((i, tree) ∷ rest)

-- a root has become another, whose tree is that of the first with something before it; all others are as they were
pub record Becomes (old new : SsuBuild) (i j : ℕ) (f : ssu.Tree → ssu.Tree) : Type 0 where
  pub by : (t : ssu.Tree) (rest : List Rooted) → Holds old ((i, t) ∷ rest) → Holds new ((j, f t) ∷ rest)

-- two roots have become one
pub record Joined (old new : SsuBuild) (i j k : ℕ) (f : ssu.Tree → ssu.Tree → ssu.Tree) : Type 0 where
  pub by : (t u : ssu.Tree) (rest : List Rooted) → Holds old ((i, t) ∷ (j, u) ∷ rest) → Holds new ((k, f t u) ∷ rest)

-- one more root, with this tree
pub record Adds (old new : SsuBuild) (i : ℕ) (t : ssu.Tree) : Type 0 where
  pub by : (rest : List Rooted) → Holds old rest → Holds new ((i, t) ∷ rest)

-- the two numbers are roots'
pub record AreRoots (b : SsuBuild) (i j : ℕ) : Type 0 where
  pub first : ssu.Tree
  pub second : ssu.Tree
  pub rest : List Rooted
  pub holds : Holds b ((i, first) ∷ (j, second) ∷ rest)

-- ---- what a label has

abbrev pub successor_list : Tree → List Tree
successor_list (Let x p t) = t ∷ []
successor_list (Read m xs a t) = t ∷ []
successor_list (Write m a bs t) = t ∷ []
successor_list (If c a b t u) = t ∷ u ∷ []
successor_list (Jump l bs) = []
successor_list (Halt e bs) = []

-- the trees that references point to, the last one first
abbrev pub tops : List (Bor Boxed) → List Tree
tops ts = reverse (map (λ t. tree_view t.now) ts)

-- These nodes, one by one, turn a stack of trees into one tree: each takes what follows it from the top, and is the top then.
abbrev pub Builds : List Tree → List Tree → Tree → Type 0
Builds [] stack t = stack ≡ t ∷ []
Builds (s ∷ nodes) stack t = (rest : List Tree) × (stack ≡ successor_list s ++ rest) × Builds nodes (s ∷ rest) t

abbrev pub node_operands : Tree → List Atom
node_operands (Let x p t) = operands p
node_operands (Read m xs a t) = a ∷ []
node_operands (Write m a bs t) = a ∷ bs
node_operands (If c a b t u) = a ∷ b ∷ []
node_operands (Jump l bs) = bs
node_operands (Halt e bs) = bs

abbrev pub node_defined : Tree → List ℕ
node_defined (Let x p t) = x ∷ []
node_defined (Read m xs a t) = xs
node_defined (Write m a bs t) = []
node_defined (If c a b t u) = []
node_defined (Jump l bs) = []
node_defined (Halt e bs) = []

pub record LaidOut (base size : number.Counts) (c d : ℕ) (xs : List ℕ) : Type 0 where
  pub after : c ≤ d
  pub laid : Laid base size c d xs

-- ---- trees of a flow that were made

-- a tree of a flow was made: one root more, with the uses of its variables
pub record MadeTo (base : number.Counts) (n : ℕ) (t : Tree) (old new : SsuBuild) (d : ℕ) (part : Part) : Type 0 where
  pub adds : Adds old new part.root.0 (made base n t)
  pub counts : (y : ℕ) → counted part.counts y ≡ uses t y
  pub fresh : d ≡ n + spent t

-- where new names go on after these trees, the first one last
abbrev pub next_after : ℕ → List Tree → ℕ
next_after n [] = n
next_after n (t ∷ ts) = next_after n ts + spent t

-- their roots
abbrev pub roots_of : number.Counts → ℕ → List Tree → List Part → List Rooted
roots_of base n [] parts = []
roots_of base n (t ∷ ts) [] = []
roots_of base n (t ∷ ts) (part ∷ parts) = (part.root.0, made base (next_after n ts) t) ∷ roots_of base n ts parts

-- each of these parts has the uses of a tree
abbrev pub AreCounted : List Tree → List Part → Type 0
AreCounted [] [] = ⊤
AreCounted [] (part ∷ parts) = ⊥
AreCounted (t ∷ ts) [] = ⊥
AreCounted (t ∷ ts) (part ∷ parts) = ((y : ℕ) → counted part.counts y ≡ uses t y) × AreCounted ts parts

-- The parts on a stack, the top first, are these trees, which were made one after the other, the top last.
pub record Stacked (base : number.Counts) (n : ℕ) (ts : List Tree) (old new : SsuBuild) (d : ℕ) (parts : List Part) : Type 0 where
  pub adds : (rest : List Rooted) → Holds old rest → Holds new (roots_of base n ts parts ++ rest)
  pub counts : AreCounted ts parts
  pub fresh : d ≡ next_after n ts

-- what follows a node is on top of a stack
pub record CanMake (base : number.Counts) (t : Tree) (b : SsuBuild) (d : ℕ) (parts : List Part) : Type 0 where
  pub old : SsuBuild
  pub roots : HasRoots old
  pub first : ℕ
  pub rest : List Tree
  pub stacked : Stacked base first (successor_list t ++ rest) old b d (reverse parts)

-- a part is a node over what was taken from the top of a stack
pub record IsOver (base : number.Counts) (t : Tree) (b b' : SsuBuild) (d d' : ℕ) (parts parts' : List Part) (part : Part) : Type 0 where
  pub by : (old : SsuBuild) (n : ℕ) (rest : List Tree) → Stacked base n (successor_list t ++ rest) old b d (reverse parts) → Stacked base n (t ∷ rest) old b' d' (part ∷ reverse parts')

-- ---- labels

pub record LabelMade (l : Label) (s : SsuLabel) (c d : ℕ) (old new : SsuBuild) : Type 0 where
  pub tree : ssu.Tree
  pub adds : Adds old new s.body.0 tree
  pub made : IsMade c d l (record { params = s.params.items; body = tree })

pub record LabelsMade (ls : List Label) (ss : List SsuLabel) (b : SsuBuild) : Type 0 where
  pub roots : List Rooted
  pub holds : Holds b roots
  pub at_bodies : ids roots ≡ bodies ss
  pub made : AllMade 0 ls (with_bodies ss (trees_of roots))
