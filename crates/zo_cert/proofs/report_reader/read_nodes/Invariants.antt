use Rattle.std.proofs.Common.{◌≡◌, length, map}
use Rattle.zo_cert_tree.specs.Node.{node_contents}
use Rattle.zo_cert.proofs.NodePieces.{HasNodes}
use Rattle.zo_cert.proofs.report_reader.read_nodes.Given as goal

abbrev pub invariant-loop : goal.invariant-loop
invariant-loop l = (length l.nodes.items ≡ l.counter) × HasNodes l.initial.reader.lines l.reader.lines (map node_contents l.nodes.items) l.initial.reader.number l.reader.number
