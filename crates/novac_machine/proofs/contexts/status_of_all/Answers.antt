use Rattle.std.proofs.Common.{◌<◌, length, ◌∙◌, arith}
use Rattle.novac_machine.proofs.Turns.{status-here, status-next}
use Rattle.novac_machine.proofs.contexts.status_of_all.Goals as goal

pub returns-in_default : goal.returns-in_default
returns-in_default c =
    let there : c.loop-i.i < length c.args.contexts.now = omega (arith, c.loop-i-test.true, c.requires) in
    record {
      status = c.status_of.ensures.status ∙ status-here c.args.contexts.now c.loop-i.i c.outcome.result there c.outcome.ensures c.in_default.not-Ended c.loop-i.invariant;
      end = c.status_of.ensures.end;
    }

pub loop-i-preserved : goal.loop-i-preserved
loop-i-preserved c =
    let there : c.loop-i.i < length c.args.contexts.now = omega (arith, c.loop-i-test.true, c.requires) in
    status-next c.args.contexts.now c.loop-i.i c.outcome.result c.in-Ended.field-0 there c.outcome.ensures c.in-Ended.is c.loop-i.invariant
