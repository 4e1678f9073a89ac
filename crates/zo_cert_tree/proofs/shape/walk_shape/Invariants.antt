use Rattle.std.proofs.Common.{◌≡◌, ◌≤◌, drop, take}
use Rattle.std.specs.Prelude.{◌↔◌}
use Rattle.zo_cert_tree.specs.Certificate.{IsWellNamed, branches}
use Rattle.zo_cert_tree.specs.inner.Walk.{Walks}
use Rattle.zo_cert_tree.proofs.shape.walk_shape.Given as goal

abbrev pub invariant-loop-node : goal.invariant-loop-node
invariant-loop-node l = record {
  same_costs : l.path.costs ≡ l.initial.path.costs;
  counted : l.count ≡ branches (take l.node-index l.nodes);
  few : l.count ≤ l.node-index;
  walks : Walks (IsWellNamed l.z) l.path.fixings (drop l.node-index l.nodes) ↔ Walks (IsWellNamed l.z) l.initial.path.fixings l.nodes;
}
