use Rattle.nv_text_parser.proofs.MadeExpr.{tuple_made}
use Rattle.nv_text_parser.proofs.nodes.tuple.Goals as goal

pub returns : goal.returns
returns c = tuple_made c.args.span c.args.parts
