use Rattle.std.proofs.Common.{arith}
use Rattle.novac_machine.proofs.OwnEntries.{own-next, own-last, own-few}
use Rattle.novac_machine.proofs.footprints.own_steps.Goals as goal

pub overflow_add-steps : goal.overflow_add-steps
overflow_add-steps c =
    omega (arith, c.loop-entry.invariant, own-next c.args.number c.args.entries.now c.loop-entry.entry-index c.loop-entry-test.true, own-few c.args.number c.args.entries.now, c.requires.few, c.own_of-steps.ensures)

pub loop-entry-preserved : goal.loop-entry-preserved
loop-entry-preserved c = omega (arith, c.loop-entry.invariant, own-next c.args.number c.args.entries.now c.loop-entry.entry-index c.loop-entry-test.true, c.own_of-steps.ensures)

pub returns : goal.returns
returns c = record {
  own = omega (arith, c.loop-entry.invariant, own-last c.args.number c.args.entries.now c.loop-entry.entry-index c.loop-entry-test.false);
  few = omega (arith, c.loop-entry.invariant, own-last c.args.number c.args.entries.now c.loop-entry.entry-index c.loop-entry-test.false, own-few c.args.number c.args.entries.now, c.requires.few);
}
