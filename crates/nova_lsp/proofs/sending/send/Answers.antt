use Rattle.std.proofs.Common.{◌++◌, ◌∙◌, ap}
use Rattle.nova_lsp.specs.Frames.{frame}
use Rattle.nova_lsp.proofs.Written.{nothing, content, out_of_memory}
use Rattle.nova_lsp.proofs.sending.send.Goals as goal

pub returns-in-Nothing : goal.returns-in-Nothing
returns-in-Nothing g c = λ tells done. nothing c.args.reply (g.K.Sink.written c.args.out.now) c.in-Nothing.is

pub returns-in-Content : goal.returns-in-Content
returns-in-Content g c = λ tells done. content c.args.reply c.in-Content.content (g.K.Sink.written c.args.out.now) (g.K.Sink.written c.send_content.new.out) c.in-Content.is (c.send_content.ensures tells done ∙ ap (λ l. g.K.Sink.written c.args.out.now ++ frame l) c.deref.ensures.value)

pub returns-in-NoMemory : goal.returns-in-NoMemory
returns-in-NoMemory g c = λ tells done.
    out_of_memory c.args.reply c.as_bytes.result.now (g.K.Sink.written c.args.out.now) (g.K.Sink.written c.send_content-in-NoMemory.new.out) c.in-NoMemory.is c.as_bytes.ensures.value (c.send_content-in-NoMemory.ensures tells done)
