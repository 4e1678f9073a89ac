-- what a search has found
use Rattle.std.specs.Prelude.{◌≡◌, ℕ, ◌≤◌, List, [], ◌∷◌, Bool, Option, Some, None}
use Rattle.zo_model.specs.declared.program.Assignment.{Assignment}
use Rattle.zo_model.specs.declared.program.ZeroOne.{ZeroOne}
use Rattle.zo_cert_tree.specs.Certificate.{Tree, preorder, EachNode, branches, HasLeft, unfixed}
use Rattle.zo_cert_tree.specs.declared.cert.CertNode.{CertNode}
use Rattle.zo_cert_tree.specs.declared.cert.CertNode.TheVariants.{Branch, Bound, Clash, Left}
use Rattle.zo_solve_dive.specs.declared.best.Best.{Best}
use Rattle.zo_solve_dive.specs.inner.Better.{IsBest}
use Rattle.zo_solve_branch.specs.inner.Node.{IsGood}
use Rattle.zo_solve.specs.declared.search.Solved.{Solved}
use Rattle.zo_solve.specs.declared.search.Solved.TheVariants as answers

-- each branch stands before the first node that is left
abbrev pub LeftsLast : List CertNode → Type 0
LeftsLast [] = Unit {0}
LeftsLast (Branch j ∷ ns) = LeftsLast ns
LeftsLast (Bound d ms ∷ ns) = LeftsLast ns
LeftsLast (Clash ms ∷ ns) = LeftsLast ns
LeftsLast (Left ∷ ns) = branches ns ≡ 0

-- what a search that has ended has found
pub record IsFound (z : ZeroOne) (start : Option ℕ) (answers : List (Option Bool) → ℕ → Type 0) (budget : ℕ) (b : Best) (ns : List CertNode) : Type 0 where
  pub best : IsBest z b
  pub same_start : b.start ≡ start
  pub tree : Tree
  pub whole : preorder tree ≡ ns
  pub good : EachNode (IsGood z start answers b.claim) (unfixed z) tree
  pub lefts_last : LeftsLast ns
  pub within_budget : branches ns ≤ budget
  pub cut_off : HasLeft ns → branches ns ≡ budget

-- the answer of a search with this best vector and these nodes
abbrev pub IsAnswerOf : Option Assignment → List CertNode → Solved → Type 0
IsAnswerOf o ns (answers.Optimal x c) = (o ≡ Some x) × (c.nodes.items ≡ ns) × ¬ (HasLeft ns)
IsAnswerOf o ns (answers.Feasible x c) = (o ≡ Some x) × (c.nodes.items ≡ ns) × HasLeft ns
IsAnswerOf o ns (answers.Infeasible c) = (o ≡ None) × (c.nodes.items ≡ ns) × ¬ (HasLeft ns)
IsAnswerOf o ns (answers.Spent c) = (o ≡ None) × (c.nodes.items ≡ ns) × HasLeft ns
