use Rattle.std.proofs.Common.{◌++◌, ◌∷◌, [], ap, ◌∙◌, arith}
use Rattle.zo_cert_tree.specs.Node.{node_contents, node_line}
use Rattle.zo_model.proofs.Pieces.{line_more}
use Rattle.zo_cert.proofs.report_text.push_nodes.Goals as goal

pub loop-node-preserved : goal.loop-node-preserved
loop-node-preserved c =
    c.in_ok-push_node.ensures ∙ (ap (λ t. t ++ (node_line (node_contents c.node-item.result) ++ 10 ∷ [])) c.loop-node.invariant ∙ line_more node_contents node_line c.args.out.now.items c.args.nodes.now c.loop-node.node-index c.node-item.result c.node-item.result (omega arith) c.node-item.is)
