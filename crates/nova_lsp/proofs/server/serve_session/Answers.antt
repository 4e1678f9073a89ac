use Rattle.std.proofs.Common.{◌≡◌, true, rules, subst}
use Rattle.nova_lsp.specs.Exchanges.{IsSession}
use Rattle.nova_lsp.proofs.Sent.{more, ended}
use Rattle.nova_lsp.proofs.server.serve_session.Goals as goal

pub returns-in-Err : goal.returns-in-Err
returns-in-Err g c = λ t.
    let come = c.next_message-message in
    ended (g.R.Read.remaining c.args.input.now) (g.R.Read.remaining c.loop.input) (g.R.Read.remaining come.new.input) (g.K.Sink.written c.args.out.now) (g.K.Sink.written c.loop.out) come.ensures.read.0 c.loop.session.stage come.result c.in-Err.ended
    (c.loop.invariant.session t) come.ensures.read.1 come.ensures.read.2 come.ensures.end c.in-Err.ensures.end

pub returns-in-Some : goal.returns-in-Some
returns-in-Some g c = λ t.
    let come = c.next_message-message in
    let sent : c.send.result ≡ true = search rules in
    let all = more (g.R.Read.remaining c.args.input.now) (g.R.Read.remaining c.loop.input) (g.R.Read.remaining come.new.input) (g.K.Sink.written c.args.out.now) (g.K.Sink.written c.loop.out) (g.K.Sink.written c.send.new.out) come.ensures.read.0 c.loop.session.stage c.reply_to.new.session.stage come.result c.in-Ok.reply
    (c.loop.invariant.session t) c.loop.invariant.going come.ensures.read.1 come.ensures.read.2 c.in-Ok.ensures.reply (c.send.ensures t sent) in
    subst (λ s. IsSession s (g.R.Read.remaining c.args.input.now) (g.R.Read.remaining come.new.input) (g.K.Sink.written c.args.out.now) (g.K.Sink.written c.send.new.out)) c.in-Some.ensures.over all

pub loop-preserved : goal.loop-preserved
loop-preserved g c =
    let come = c.next_message-message in
    let sent : c.send.result ≡ true = search rules in
    record {
      session = λ t.
          more (g.R.Read.remaining c.args.input.now) (g.R.Read.remaining c.loop.input) (g.R.Read.remaining come.new.input) (g.K.Sink.written c.args.out.now) (g.K.Sink.written c.loop.out) (g.K.Sink.written c.send.new.out) come.ensures.read.0 c.loop.session.stage c.reply_to.new.session.stage come.result c.in-Ok.reply
          (c.loop.invariant.session t) c.loop.invariant.going come.ensures.read.1 come.ensures.read.2 c.in-Ok.ensures.reply (c.send.ensures t sent);
      going = c.in-None.ensures.going;
    }
