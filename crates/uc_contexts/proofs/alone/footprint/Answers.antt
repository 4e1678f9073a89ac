use Rattle.std.proofs.Common.{◌≡◌, arith}
use Rattle.uc_isa.specs.Step.{EndsRun, step}
use Rattle.uc_contexts.proofs.Footing.{FootOf, footed-none, footed-next, footed-all, footed-over, ended-there}
use Rattle.uc_contexts.proofs.alone.footprint.Goals as goal

pub loop-init : goal.loop-init
loop-init c =
    let read = c.in_ok-new.ensures in
    let written = c.in_ok-new-2.ensures in
    footed-none c.args.c.now c.args.p.now c.args.args.now c.args.base c.start-e.result _ read.packet c.start-e.ensures c.list-code.ensures.code.some read.sizes written.sizes read.empty written.empty

pub loop-preserved : goal.loop-preserved
loop-preserved c =
    let taken = c.take_step.ensures in
    footed-next c.args.c.now c.args.p.now c.args.args.now c.args.base c.loop.counter c.loop.e c.loop.p c.loop.marks c.take_step.new.e c.take_step.new.p c.take_step.new.marks c.loop.invariant taken.engine taken.packet taken.inside taken.read taken.written taken.fit

-- what a run leaves where this step ended it
over : (c : goal.Then-take_step) → FootOf c.args.c.now c.args.p.now c.args.args.now c.args.base c.args.m c.take_step.new.p c.take_step.new.marks
over c =
    let taken = c.take_step.ensures in
    let first = c.args.p.now in
    let ends : EndsRun (step c.args.c.now.list c.loop.e c.loop.p).stepped = taken.over c.if-take_step.true in
    footed-over c.args.c.now first c.args.args.now c.args.base c.loop.counter c.args.m c.take_step.new.e c.take_step.new.p c.take_step.new.marks c.loop-test.true (ended-there c.args.c.now first c.args.args.now c.args.base c.loop.counter c.loop.e c.loop.p c.loop.marks c.loop.invariant ends)
    (footed-next c.args.c.now first c.args.args.now c.args.base c.loop.counter c.loop.e c.loop.p c.loop.marks c.take_step.new.e c.take_step.new.p c.take_step.new.marks c.loop.invariant taken.engine taken.packet taken.inside taken.read taken.written taken.fit)

pub returns-then-take_step-clause-footprint : goal.returns-then-take_step-clause-footprint
returns-then-take_step-clause-footprint c = (over c).footprint

pub returns-then-take_step-clause-packet : goal.returns-then-take_step-clause-packet
returns-then-take_step-clause-packet c = (over c).packet

pub returns-clause-footprint : goal.returns-clause-footprint
returns-clause-footprint c =
    let all : c.loop.counter ≡ c.args.m = omega arith in
    (footed-all c.args.c.now c.args.p.now c.args.args.now c.args.base c.loop.counter c.args.m c.loop.e c.loop.p c.loop.marks all c.loop.invariant).footprint
