use Rattle.std.proofs.Common.{◌≡◌, ◌++◌, map, take}
use Rattle.nv_lines.specs.Line.{text_of}
use Rattle.zo_cert_tree.specs.Node.{node_contents, node_line}
use Rattle.zo_cert.proofs.report_text.push_nodes.Given as goal

abbrev pub invariant-loop-node : goal.invariant-loop-node
invariant-loop-node l = l.out.items ≡ l.initial.out.items ++ text_of (map node_line (map node_contents (take l.node-index l.nodes)))
