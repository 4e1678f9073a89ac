use Rattle.std.proofs.Common.{map, take}
use Rattle.std.specs.List.{All}
use Rattle.zo_cert_tree.specs.Node.{node_contents, IsNodeText}
use Rattle.zo_cert.proofs.fits.nodes_fit.Given as goal

abbrev pub invariant-loop-node : goal.invariant-loop-node
invariant-loop-node l = All IsNodeText (map node_contents (take l.node-index l.nodes))
