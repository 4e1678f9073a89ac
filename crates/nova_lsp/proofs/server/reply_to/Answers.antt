use Rattle.nova_lsp.proofs.Readings.{taken}
use Rattle.nova_lsp.proofs.server.reply_to.Goals as goal

pub returns-in-Content-clause-reply : goal.returns-in-Content-clause-reply
returns-in-Content-clause-reply c =
    taken c.args.session.now.stage c.respond-reply.new.self.stage c.args.message c.in-Content.content c.deref.result.now c.respond-reply.result c.in-Content.is c.deref.ensures.value c.respond-reply.ensures.message c.respond-reply.ensures.no_json
