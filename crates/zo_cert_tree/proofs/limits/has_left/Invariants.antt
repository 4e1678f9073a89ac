use Rattle.std.proofs.Common.{drop}
use Rattle.std.specs.Prelude.{◌↔◌}
use Rattle.zo_cert_tree.specs.Certificate.{HasLeft}
use Rattle.zo_cert_tree.proofs.limits.has_left.Given as goal

abbrev pub invariant-loop-node : goal.invariant-loop-node
invariant-loop-node l = HasLeft (drop l.node-index l.nodes) ↔ HasLeft l.nodes
