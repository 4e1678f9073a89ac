use Rattle.nv_text_parser.proofs.MadeExpr.{fields_made}
use Rattle.nv_text_parser.proofs.nodes.fields.Goals as goal

pub returns : goal.returns
returns c = fields_made c.args.span c.args.members
