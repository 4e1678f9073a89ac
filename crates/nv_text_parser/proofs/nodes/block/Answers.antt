use Rattle.nv_text_parser.proofs.MadeExpr.{whole_block_made}
use Rattle.nv_text_parser.proofs.nodes.block.Goals as goal

pub returns : goal.returns
returns c = whole_block_made c.joined-span.result c.args.first c.args.statements _ c.args.tail c.joined-span.ensures c.in_ok-tail.ensures.ok
