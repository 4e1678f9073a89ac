use Rattle.uc_contexts.proofs.Starting.{started-number}
use Rattle.uc_contexts.proofs.state.Contexts.new.Goals as goal

pub returns-clause-number : goal.returns-clause-number
returns-clause-number c = started-number c.loop-number.list.items c.loop-number.number c.args.args.now c.loop-number-test.false c.loop-number.invariant
