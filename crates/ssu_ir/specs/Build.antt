-- What contracts say of a builder: its roots, with their trees.
use Rattle.std.specs.Prelude.{◌≡◌, ℕ, true, List, [], ◌∷◌, ◌++◌}
use Rattle.std.specs.List.{list_all}
use Rattle.nv_base.specs.Sets.{is_in, all_different}
use Rattle.ssu_ir.specs.declared.node.SsuLabel.{SsuLabel}
use Rattle.ssu_ir.specs.declared.node.SsuNode.{SsuNode}
use Rattle.ssu_ir.specs.declared.build.SsuBuild.{SsuBuild}
use Rattle.ssu_ir.specs.declared.ssu.Ssu.{Ssu}
use Rattle.ssu_ir.specs.Tree.{Tree}
use Rattle.ssu_ir.specs.View.{with_bodies, labels_view}
use Rattle.ssu_ir.specs.Slots.{Slots, Placed, root, bare, AllStand, times_all, occupied, weight_all, filled, bodies, over, node_of, successors_of}

-- a root, and its tree
abbrev pub Rooted : Type 0
Rooted = ℕ × Tree

abbrev pub ids : List Rooted → List ℕ
ids [] = []
ids (r ∷ rs) = r.0 ∷ ids rs

abbrev pub trees_of : List Rooted → List Tree
trees_of [] = []
trees_of (r ∷ rs) = r.1 ∷ trees_of rs

abbrev pub rooted : Placed → Rooted
rooted p = (root p, bare p)

abbrev pub rooted_all : List Placed → List Rooted
rooted_all [] = []
rooted_all (p ∷ ps) = rooted p ∷ rooted_all ps

-- the slots hold exactly the nodes of these trees, each once
pub record Forest (slots : Slots) (roots : List Rooted) : Type 0 where
  pub placed : List Placed
  pub as_said : rooted_all placed ≡ roots
  pub stand : AllStand slots placed
  pub once : (i : ℕ) → times_all i placed ≡ occupied slots i
  pub many : weight_all placed ≡ filled slots

-- the builder has exactly these roots, with these trees
abbrev pub Holds : SsuBuild → List Rooted → Type 0
Holds b rs = Forest b.nodes.slots rs

-- the children of the node are roots, each a different one: these in order, beside the rest
pub record CanTake (b : SsuBuild) (n : SsuNode) : Type 0 where
  pub taken : List Rooted
  pub rest : List Rooted
  pub children : ids taken ≡ successors_of n
  pub holds : Holds b (taken ++ rest)

-- the same in other words, where the builder has these roots
pub record AreDifferentRoots (roots : List Rooted) (ks : List ℕ) : Type 0 where
  pub different : all_different ks ≡ true
  pub roots_all : list_all (λ k. is_in k (ids roots)) ks ≡ true

-- the node stands under this number over the roots that it takes, and is a root in their place
abbrev pub Grown : SsuBuild → SsuBuild → SsuNode → ℕ → Type 0
Grown old new n id =
    (taken rest : List Rooted) → ids taken ≡ successors_of n → Holds old (taken ++ rest)
    → Holds new ((id, over (node_of n) (trees_of taken)) ∷ rest)

-- the nodes, under their numbers
abbrev pub nodes_in : SsuBuild → Slots
nodes_in b = b.nodes.slots

-- the bodies are the roots, each once
pub record CanFinish (b : SsuBuild) (labels : List SsuLabel) : Type 0 where
  pub roots : List Rooted
  pub holds : Holds b roots
  pub at_bodies : ids roots ≡ bodies labels

-- the labels stand over the trees of their bodies
abbrev pub Finished : SsuBuild → List SsuLabel → Ssu → Type 0
Finished b labels s =
    (roots : List Rooted) → Holds b roots → ids roots ≡ bodies labels → labels_view s ≡ with_bodies labels (trees_of roots)
