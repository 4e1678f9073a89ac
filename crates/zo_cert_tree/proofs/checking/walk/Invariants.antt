use Rattle.std.proofs.Common.{◌≡◌, drop}
use Rattle.std.specs.Prelude.{◌↔◌}
use Rattle.zo_model.specs.Program.{columns}
use Rattle.zo_cert_tree.specs.Certificate.{ClosesLeaf, OfLeaf}
use Rattle.zo_cert_tree.specs.inner.Leaf.{IsClear}
use Rattle.zo_cert_tree.specs.inner.Walk.{Walks}
use Rattle.zo_cert_tree.proofs.checking.walk.Given as goal

abbrev pub invariant-loop-node : goal.invariant-loop-node
invariant-loop-node l = record {
  same_costs : l.path.costs ≡ l.initial.path.costs;
  clear : IsClear (columns l.z) l.weights;
  walks : Walks (OfLeaf (ClosesLeaf l.z l.claim)) l.path.fixings (drop l.node-index l.nodes) ↔ Walks (OfLeaf (ClosesLeaf l.z l.claim)) l.initial.path.fixings l.nodes;
}
