use Rattle.nv_text_parser.proofs.MadeExpr.{raise_made}
use Rattle.nv_text_parser.proofs.nodes.raise.Goals as goal

pub returns : goal.returns
returns c = raise_made c.args.span c.args.exception c.args.arguments
