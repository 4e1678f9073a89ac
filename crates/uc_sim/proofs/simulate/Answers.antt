use Rattle.std.proofs.Common.{◌+◌, sym, subst, ap, ◌∙◌, arith}
use Rattle.nv_base.specs.Log.{Log}
use Rattle.nv_base.specs.declared.outcome.Outcome.{Outcome}
use Rattle.nv_base.specs.declared.outcome.Outcome.TheVariants as outcome
use Rattle.uc_isa.specs.Step.{EndsRun}
use Rattle.uc_sim.proofs.Simulated.{Simulated, Final, last_outcome, simulated-none, simulated-went, simulated-wrote, noted-count, final-going, final-over, final-exactly}
use Rattle.uc_sim.proofs.simulate.Goals as goal
use Rattle.uc_sim.proofs.simulate.Goals.{in-Went, in-Wrote}

pub loop-init : goal.loop-init
loop-init c = simulated-none c.args.c.now.list c.args.e.now c.args.p.now c.args.log.now c.requires.inside

pub step-requires-clause-inside : goal.step-requires-clause-inside
step-requires-clause-inside c = c.loop.invariant.inside

pub note-requires : goal.note-requires
note-requires c = omega (arith, c.loop.invariant.counted)

pub loop-preserved : goal.loop-preserved
loop-preserved c =
    let code = c.args.c.now.list in
    let Now : Log → Type 0 = Simulated code c.args.e.now c.args.p.now c.args.log.now (c.loop.counter + 1) c.step.new.e c.step.new.p in
    let step = c.step.ensures in
    elim c.match-step.branch [
      | in-Went w ↦ subst Now (sym w.log-is) (simulated-went code c.args.e.now c.args.p.now c.args.log.now c.loop.counter c.loop.e c.loop.p c.loop.log c.step.result c.step.new.e c.step.new.p c.loop.invariant step.stepped step.engine step.packet w.in-Went.is step.inside)
      | in-Wrote w ↦ subst Now (sym (w.log-is ∙ w.note.ensures)) (simulated-wrote code c.args.e.now c.args.p.now c.args.log.now c.loop.counter c.loop.e c.loop.p c.loop.log c.step.result c.step.new.e c.step.new.p w.in-Wrote.w c.loop.invariant step.stepped step.engine step.packet w.in-Wrote.is step.inside (noted-count c.loop.log w.in-Wrote.w))
    ]

-- what was reached where a step halted
halted-final : (c : goal.After-outcome_of) → Final c.args.c.now.list c.args.e.now c.args.p.now c.args.log.now c.args.n c.outcome_of.result c.step.new.e c.step.new.p c.loop.log
halted-final c =
    let step = c.step.ensures in
    let is = c.in-Halted.is in
    let code = c.args.c.now.list in
    let Now : Outcome → Type 0 = λ o. Final code c.args.e.now c.args.p.now c.args.log.now c.args.n o c.step.new.e c.step.new.p c.loop.log in
    subst Now (ap last_outcome is ∙ sym c.outcome_of.ensures) (final-over code c.args.e.now c.args.p.now c.args.log.now c.loop.counter c.args.n c.loop.e c.loop.p c.loop.log c.step.result c.step.new.e c.step.new.p c.loop.invariant c.loop-test.true step.stepped step.engine step.packet (subst EndsRun (sym is) tt))

pub returns-in-Halted-clause-outcome : goal.returns-in-Halted-clause-outcome
returns-in-Halted-clause-outcome c = (halted-final c).outcome

pub returns-in-Halted-clause-packet : goal.returns-in-Halted-clause-packet
returns-in-Halted-clause-packet c = (halted-final c).packet

pub returns-in-Halted-clause-log : goal.returns-in-Halted-clause-log
returns-in-Halted-clause-log c = (halted-final c).logged

pub returns-in-Halted-clause-engine : goal.returns-in-Halted-clause-engine
returns-in-Halted-clause-engine c = (halted-final c).engine

pub returns-in-Halted-clause-going : goal.returns-in-Halted-clause-going
returns-in-Halted-clause-going c = final-exactly c.args.c.now.list c.args.e.now c.args.p.now c.args.log.now c.args.n c.outcome_of.result c.step.new.e c.step.new.p c.loop.log (halted-final c)

-- what was reached where a step faulted
fault-final : (c : goal.In-Fault) → Final c.args.c.now.list c.args.e.now c.args.p.now c.args.log.now c.args.n (outcome.Fault c.in-Fault.mem c.in-Fault.at) c.step.new.e c.step.new.p c.loop.log
fault-final c =
    let step = c.step.ensures in
    let is = c.in-Fault.is in
    let code = c.args.c.now.list in
    let Now : Outcome → Type 0 = λ o. Final code c.args.e.now c.args.p.now c.args.log.now c.args.n o c.step.new.e c.step.new.p c.loop.log in
    subst Now (ap last_outcome is) (final-over code c.args.e.now c.args.p.now c.args.log.now c.loop.counter c.args.n c.loop.e c.loop.p c.loop.log c.step.result c.step.new.e c.step.new.p c.loop.invariant c.loop-test.true step.stepped step.engine step.packet (subst EndsRun (sym is) tt))

pub returns-in-Fault-clause-outcome : goal.returns-in-Fault-clause-outcome
returns-in-Fault-clause-outcome c = (fault-final c).outcome

pub returns-in-Fault-clause-packet : goal.returns-in-Fault-clause-packet
returns-in-Fault-clause-packet c = (fault-final c).packet

pub returns-in-Fault-clause-log : goal.returns-in-Fault-clause-log
returns-in-Fault-clause-log c = (fault-final c).logged

pub returns-in-Fault-clause-engine : goal.returns-in-Fault-clause-engine
returns-in-Fault-clause-engine c = (fault-final c).engine

pub returns-in-Fault-clause-going : goal.returns-in-Fault-clause-going
returns-in-Fault-clause-going c = final-exactly c.args.c.now.list c.args.e.now c.args.p.now c.args.log.now c.args.n _ c.step.new.e c.step.new.p c.loop.log (fault-final c)

-- what was reached where all steps were taken
going-final : (c : goal.After-loop) → Final c.args.c.now.list c.args.e.now c.args.p.now c.args.log.now c.args.n outcome.Going c.loop.e c.loop.p c.loop.log
going-final c = final-going c.args.c.now.list c.args.e.now c.args.p.now c.args.log.now c.loop.counter c.args.n c.loop.e c.loop.p c.loop.log c.loop.invariant (omega arith)

pub returns-clause-outcome : goal.returns-clause-outcome
returns-clause-outcome c = (going-final c).outcome

pub returns-clause-packet : goal.returns-clause-packet
returns-clause-packet c = (going-final c).packet

pub returns-clause-log : goal.returns-clause-log
returns-clause-log c = (going-final c).logged

pub returns-clause-engine : goal.returns-clause-engine
returns-clause-engine c = (going-final c).engine

pub returns-clause-going : goal.returns-clause-going
returns-clause-going c = final-exactly c.args.c.now.list c.args.e.now c.args.p.now c.args.log.now c.args.n _ c.loop.e c.loop.p c.loop.log (going-final c)

pub returns-clause-inside : goal.returns-clause-inside
returns-clause-inside c = c.loop.invariant.inside
