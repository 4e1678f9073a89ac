use Rattle.uc_peep.proofs.Sweeps.{measure-falls, live-exactly}
use Rattle.std.proofs.Common.{sym}
use Rattle.std.proofs.lemmas.Bool.{false≢true}
use Rattle.uc_peep.proofs.liveness.settle.Goals as goal

pub loop-rose-init : goal.loop-rose-init
loop-rose-init c = record {
  sound = c.requires.sound;
  small = c.requires.few;
  closed = λ e. absurd (false≢true (sym e));
}

pub loop-rose-smaller : goal.loop-rose-smaller
loop-rose-smaller c = measure-falls c.loop-rose.sets c.sweep-rose.new.sets c.sweep-rose.result c.loop-rose.rose c.sweep-rose.auto.sets (c.sweep-rose.ensures.small c.loop-rose.invariant.small) c.loop-rose-test.true c.sweep-rose.ensures.rises c.sweep-rose.ensures.steady

pub returns-clause-live : goal.returns-clause-live
returns-clause-live c = live-exactly c.args.code.now c.loop-rose.sets c.loop-rose.invariant.sound (c.loop-rose.invariant.closed c.loop-rose-test.false)
