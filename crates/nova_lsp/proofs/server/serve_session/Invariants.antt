use Rattle.nova_lsp.specs.Exchanges.{IsSession}
use Rattle.nova_lsp.specs.Stages.{IsGoing}
use Rattle.nova_lsp.proofs.server.serve_session.Given as goal

-- each message that came so far has what it gets, and the session goes on
abbrev pub invariant-loop : goal.invariant-loop
invariant-loop g l =
    record {
      session : g.K.Sink.tells → IsSession l.session.stage (g.R.Read.remaining l.initial.input) (g.R.Read.remaining l.input) (g.K.Sink.written l.initial.out) (g.K.Sink.written l.out);
      going : IsGoing l.session.stage;
    }
