use Rattle.std.proofs.Common.{ap, sym}
use Rattle.uc_contexts.specs.Turns.{Turn}
use Rattle.uc_contexts.proofs.Turning.{turns-of_run, turns-over, over-unless_going}
use Rattle.uc_contexts.proofs.state.Context.run.Goals as goal

pub returns-in-Going-clause-context : goal.returns-in-Going-clause-context
returns-in-Going-clause-context c =
    let run = c.simulate-self in
    ap (λ (t : Turn). t.context) (turns-of_run c.args.c.now.list c.args.n c.args.self.now c.args.p.now run.result run.new.e run.new.p run.new.log c.in-Going.is run.ensures.outcome run.ensures.packet run.ensures.log run.ensures.engine)

pub returns-in-Going-clause-packet : goal.returns-in-Going-clause-packet
returns-in-Going-clause-packet c =
    let run = c.simulate-self in
    ap (λ (t : Turn). t.packet) (turns-of_run c.args.c.now.list c.args.n c.args.self.now c.args.p.now run.result run.new.e run.new.p run.new.log c.in-Going.is run.ensures.outcome run.ensures.packet run.ensures.log run.ensures.engine)

pub returns-in_default : goal.returns-in_default
returns-in_default c =
    let same = sym (turns-over c.args.c.now.list c.args.n c.args.self.now c.args.p.now (over-unless_going c.args.self.now.outcome c.in_default.not-Going)) in
    record {
      context = ap (λ (t : Turn). t.context) same;
      packet = ap (λ (t : Turn). t.packet) same;
      inside = c.requires.inside;
    }
