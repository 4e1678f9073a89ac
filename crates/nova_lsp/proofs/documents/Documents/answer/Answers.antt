use Rattle.serde_json.specs.View.{view}
use Rattle.nova_lsp.proofs.Readings.{refused_at_once, heard}
use Rattle.nova_lsp.proofs.documents.Documents.answer.Goals as goal

pub returns-in-Some : goal.returns-in-Some
returns-in-Some c = refused_at_once c.args.stage (view c.args.id.now) c.args.method.now c.in-Some.fault.code c.refused.result c.in-Some.ensures c.refused.ensures.reply c.refused.ensures.refused

pub returns-in-None : goal.returns-in-None
returns-in-None c = heard c.args.stage (view c.args.id.now) c.args.method.now c.answer_heard.result c.in-None.ensures c.answer_heard.ensures
