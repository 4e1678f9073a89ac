use Rattle.std.proofs.Common.{◌≡◌, ◌+◌, ◌*◌, length}
use Rattle.zo_model.specs.Program.{columns}
use Rattle.zo_cert_tree.specs.Certificate.{branches, HasLeft}
use Rattle.zo_cert_tree.specs.inner.Leaf.{IsClear}
use Rattle.zo_solve_dive.specs.Pick.{Answers}
use Rattle.zo_solve_dive.specs.inner.Better.{IsBest}
use Rattle.zo_solve.specs.inner.Search.{LeftsLast}
use Rattle.zo_solve.proofs.Weaker.{BegunFor}
use Rattle.zo_solve.proofs.search.walk.Given as goal

abbrev pub invariant-nodes : goal.invariant-nodes
invariant-nodes g l = record {
  program : l.sums.program ≡ l.z;
  places : length l.sums.fixed ≡ columns l.z;
  same_costs : l.path.costs ≡ l.z.costs.items;
  clear : IsClear (columns l.z) l.weights;
  is_best : IsBest l.z l.best;
  same_start : l.best.start ≡ l.initial.best.start;
  begun : BegunFor l.z l.initial.best.start (Answers (goal.F-post g l.pick.choose) l.z) l.best.claim l.path.fixings l.nodes.items;
  counts : branches l.nodes.items + l.left ≡ l.budget;
  lefts_last : LeftsLast l.nodes.items;
  spent : HasLeft l.nodes.items → l.left ≡ 0;
}

abbrev pub decreases-nodes : goal.decreases-nodes
decreases-nodes g l = 2 * l.left + length l.path.fixings
