use Rattle.nv_text_parser.proofs.MadeExpr.{binary_made}
use Rattle.nv_text_parser.proofs.nodes.binary.Goals as goal

pub returns : goal.returns
returns c = binary_made _ c.args.op _ _ c.args.left c.args.right c.joined-span.ensures c.in-Ok.ensures.ok c.in_ok-right.ensures.ok
