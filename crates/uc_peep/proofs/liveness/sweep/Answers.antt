use Rattle.std.proofs.Common.{refl, inl, inr}
use Rattle.uc_peep.proofs.Sweeps.{swept-none, swept-on, swept-all}
use Rattle.uc_peep.proofs.liveness.sweep.Goals as goal

pub loop-x-init : goal.loop-x-init
loop-x-init c = swept-none c.args.code.now c.args.sets.now c.requires.length

pub loop-x-preserved : goal.loop-x-preserved
loop-x-preserved c = swept-on c.args.code.now c.args.sets.now c.loop-x.sets c.update.new.sets c.loop-x.x c.loop-x.rose c.update.result _ c.loop-x-test.true c.loop-x.invariant c.update.ensures (inr (c.if-update.false, refl))

pub loop-x-preserved-then-update : goal.loop-x-preserved-then-update
loop-x-preserved-then-update c = swept-on c.args.code.now c.args.sets.now c.loop-x.sets c.update.new.sets c.loop-x.x c.loop-x.rose c.update.result _ c.loop-x-test.true c.loop-x.invariant c.update.ensures (inl (c.if-update.true, refl))

pub update-requires-clause-length : goal.update-requires-clause-length
update-requires-clause-length c = c.loop-x.invariant.size

pub returns-clause-sound : goal.returns-clause-sound
returns-clause-sound c = c.loop-x.invariant.sound

pub returns-clause-small : goal.returns-clause-small
returns-clause-small c = c.loop-x.invariant.small

pub returns-clause-rises : goal.returns-clause-rises
returns-clause-rises c = c.loop-x.invariant.rises

pub returns-clause-closed : goal.returns-clause-closed
returns-clause-closed c = swept-all c.args.code.now c.args.sets.now c.loop-x.sets c.loop-x.rose c.loop-x.x c.loop-x-test.false c.loop-x.invariant

pub returns-clause-steady : goal.returns-clause-steady
returns-clause-steady c = λ e. (c.loop-x.invariant.closed e).0
