use Rattle.std.proofs.Common.{refl}
use Rattle.serde_json.specs.View.{view}
use Rattle.nova_lsp.specs.Messages.{request, notice, response, invalid}
use Rattle.nova_lsp.specs.declared.envelope.Reply.TheVariants.{Nothing}
use Rattle.nova_lsp.proofs.Readings.{handled}
use Rattle.nova_lsp.proofs.session.Session.respond_to.Goals as goal

pub returns-in-Request : goal.returns-in-Request
returns-in-Request c =
    handled c.args.self.now.stage c.after_request-self.result (view c.args.message.now) (request (view c.in-Request.id.now)) c.method_of-method.result.now c.answer.result
    c.in-Request.ensures c.method_of-method.ensures c.answer.ensures c.after_request-self.ensures

pub returns-in-Notice : goal.returns-in-Notice
returns-in-Notice c =
    handled c.args.self.now.stage c.after_notice-self.result (view c.args.message.now) notice c.method_of-method.result.now c.note.result c.in-Notice.ensures c.method_of-method.ensures c.note.ensures c.after_notice-self.ensures

pub returns-in-Response : goal.returns-in-Response
returns-in-Response c =
    let stage = c.args.self.now.stage in
    handled stage stage (view c.args.message.now) response c.method_of-method.result.now Nothing c.in-Response.ensures c.method_of-method.ensures refl refl

pub returns-in-Invalid : goal.returns-in-Invalid
returns-in-Invalid c =
    let stage = c.args.self.now.stage in
    handled stage stage (view c.args.message.now) invalid c.method_of-method.result.now c.refused_null.result c.in-Invalid.ensures c.method_of-method.ensures c.refused_null.ensures refl
