use Rattle.nv_text_parser.proofs.MadeExpr.{call_made}
use Rattle.nv_text_parser.proofs.nodes.call.Goals as goal

pub returns : goal.returns
returns c = call_made c.args.span c.args.function c.args.arguments
