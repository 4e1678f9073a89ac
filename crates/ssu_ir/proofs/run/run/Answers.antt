use Rattle.std.proofs.Common.{length, arith}
use Rattle.std.specs.Prelude.{vec_capacity}
use Rattle.ssu_ir.specs.View.{labels_view}
use Rattle.ssu_ir.proofs.Walking.{room-same}
use Rattle.ssu_ir.proofs.Visits.{label-inside, view-length}
use Rattle.ssu_ir.proofs.Entering.{ran-none, ran-on, ran-over, ran-all, over-stays, count-least}
use Rattle.ssu_ir.proofs.run.run.Goals as goal

pub jumps-init : goal.jumps-init
jumps-init c = record {
  ran = ran-none (labels_view c.args.s.now) c.args.words.now.items c.args.p.now c.args.log.now c.args.counts.now.items (length c.args.s.now.labels.items) c.requires.zeros (view-length c.args.s.now) c.requires.fits;
  room = c.requires.room;
}

pub count-requires-clause-inside : goal.count-requires-clause-inside
count-requires-clause-inside c =
    let h = label-inside c.args.s.now (length c.jumps.words.items) c.jumps.label c.jumps.invariant.ran.fits in omega (arith, h, c.jumps.invariant.ran.many, view-length c.args.s.now)

pub count-requires-clause-few : goal.count-requires-clause-few
count-requires-clause-few c =
    let h = label-inside c.args.s.now (length c.jumps.words.items) c.jumps.label c.jumps.invariant.ran.fits in
    let few = count-least c.jumps.counts.items c.jumps.label c.jumps.counter (omega (arith, h, c.jumps.invariant.ran.many, view-length c.args.s.now)) c.jumps.invariant.ran.total in
    omega (arith, few, c.jumps-test.true, c.requires.jumps)

pub returns-in-Over-clause-outcome : goal.returns-in-Over-clause-outcome
returns-in-Over-clause-outcome c =
    let h = c.jumps.invariant.ran in
    let there = label-inside c.args.s.now (length c.jumps.words.items) c.jumps.label h.fits in
    let left = c.visit.ensures.left c.args.log.now h.now h.at in
    let w = ran-over (labels_view c.args.s.now) c.args.words.now.items c.args.p.now c.args.log.now c.args.n c.jumps.counter c.jumps.label c.jumps.words.items c.jumps.p c.jumps.log c.jumps.counts.items c.count.new.counts.items c.visit.result c.in-Over.o c.visit.new.words.items c.visit.new.p c.visit.new.log h left c.in-Over.is (omega (arith, there, h.many, view-length c.args.s.now)) c.count.ensures (omega (arith, c.jumps-test.true)) in
    w.outcome

pub returns-in-Over-clause-packet : goal.returns-in-Over-clause-packet
returns-in-Over-clause-packet c =
    let h = c.jumps.invariant.ran in
    let there = label-inside c.args.s.now (length c.jumps.words.items) c.jumps.label h.fits in
    let left = c.visit.ensures.left c.args.log.now h.now h.at in
    let w = ran-over (labels_view c.args.s.now) c.args.words.now.items c.args.p.now c.args.log.now c.args.n c.jumps.counter c.jumps.label c.jumps.words.items c.jumps.p c.jumps.log c.jumps.counts.items c.count.new.counts.items c.visit.result c.in-Over.o c.visit.new.words.items c.visit.new.p c.visit.new.log h left c.in-Over.is (omega (arith, there, h.many, view-length c.args.s.now)) c.count.ensures (omega (arith, c.jumps-test.true)) in
    w.memories

pub returns-in-Over-clause-log : goal.returns-in-Over-clause-log
returns-in-Over-clause-log c =
    let h = c.jumps.invariant.ran in
    let there = label-inside c.args.s.now (length c.jumps.words.items) c.jumps.label h.fits in
    let left = c.visit.ensures.left c.args.log.now h.now h.at in
    let w = ran-over (labels_view c.args.s.now) c.args.words.now.items c.args.p.now c.args.log.now c.args.n c.jumps.counter c.jumps.label c.jumps.words.items c.jumps.p c.jumps.log c.jumps.counts.items c.count.new.counts.items c.visit.result c.in-Over.o c.visit.new.words.items c.visit.new.p c.visit.new.log h left c.in-Over.is (omega (arith, there, h.many, view-length c.args.s.now)) c.count.ensures (omega (arith, c.jumps-test.true)) in
    w.logged

pub returns-in-Over-clause-counts : goal.returns-in-Over-clause-counts
returns-in-Over-clause-counts c =
    let h = c.jumps.invariant.ran in
    let there = label-inside c.args.s.now (length c.jumps.words.items) c.jumps.label h.fits in
    let left = c.visit.ensures.left c.args.log.now h.now h.at in
    let w = ran-over (labels_view c.args.s.now) c.args.words.now.items c.args.p.now c.args.log.now c.args.n c.jumps.counter c.jumps.label c.jumps.words.items c.jumps.p c.jumps.log c.jumps.counts.items c.count.new.counts.items c.visit.result c.in-Over.o c.visit.new.words.items c.visit.new.p c.visit.new.log h left c.in-Over.is (omega (arith, there, h.many, view-length c.args.s.now)) c.count.ensures (omega (arith, c.jumps-test.true)) in
    w.entries

pub returns-in-Over-clause-going : goal.returns-in-Over-clause-going
returns-in-Over-clause-going c =
    λ e.
    let h = c.jumps.invariant.ran in
    let there = label-inside c.args.s.now (length c.jumps.words.items) c.jumps.label h.fits in
    let left = c.visit.ensures.left c.args.log.now h.now h.at in
    absurd (over-stays (labels_view c.args.s.now) c.args.words.now.items c.args.p.now c.args.log.now c.jumps.counter c.jumps.label c.jumps.words.items c.jumps.p c.jumps.log c.jumps.counts.items c.visit.result c.in-Over.o c.visit.new.words.items c.visit.new.p c.visit.new.log c.requires.single h left c.in-Over.is e)

pub jumps-preserved : goal.jumps-preserved
jumps-preserved c =
    let h = c.jumps.invariant.ran in
    let there = label-inside c.args.s.now (length c.jumps.words.items) c.jumps.label h.fits in
    let left = c.visit.ensures.left c.args.log.now h.now h.at in
    record {
      ran = ran-on (labels_view c.args.s.now) c.args.words.now.items c.args.p.now c.args.log.now c.jumps.counter c.jumps.label c.jumps.words.items c.jumps.p c.jumps.log c.jumps.counts.items c.count.new.counts.items c.visit.result c.in-Jump.l c.visit.new.words.items c.visit.new.p c.visit.new.log c.requires.single h left c.in-Jump.is (omega (arith, there, h.many, view-length c.args.s.now)) c.count.ensures c.visit.ensures.counted;
      room = room-same c.args.s.now (length c.jumps.values) (length c.visit.new.values) (vec_capacity c.jumps.words) (vec_capacity c.visit.new.words) c.jumps.invariant.room c.visit.ensures.places c.visit.ensures.room;
    }

pub returns-clause-outcome : goal.returns-clause-outcome
returns-clause-outcome c =
    let w = ran-all (labels_view c.args.s.now) c.args.words.now.items c.args.p.now c.args.log.now c.args.n c.jumps.counter c.jumps.label c.jumps.words.items c.jumps.p c.jumps.log c.jumps.counts.items c.jumps.invariant.ran (omega (arith, c.jumps-test.false, c.jumps.auto.counter-end)) in
    w.outcome

pub returns-clause-packet : goal.returns-clause-packet
returns-clause-packet c =
    let w = ran-all (labels_view c.args.s.now) c.args.words.now.items c.args.p.now c.args.log.now c.args.n c.jumps.counter c.jumps.label c.jumps.words.items c.jumps.p c.jumps.log c.jumps.counts.items c.jumps.invariant.ran (omega (arith, c.jumps-test.false, c.jumps.auto.counter-end)) in
    w.memories

pub returns-clause-log : goal.returns-clause-log
returns-clause-log c =
    let w = ran-all (labels_view c.args.s.now) c.args.words.now.items c.args.p.now c.args.log.now c.args.n c.jumps.counter c.jumps.label c.jumps.words.items c.jumps.p c.jumps.log c.jumps.counts.items c.jumps.invariant.ran (omega (arith, c.jumps-test.false, c.jumps.auto.counter-end)) in
    w.logged

pub returns-clause-counts : goal.returns-clause-counts
returns-clause-counts c =
    let w = ran-all (labels_view c.args.s.now) c.args.words.now.items c.args.p.now c.args.log.now c.args.n c.jumps.counter c.jumps.label c.jumps.words.items c.jumps.p c.jumps.log c.jumps.counts.items c.jumps.invariant.ran (omega (arith, c.jumps-test.false, c.jumps.auto.counter-end)) in
    w.entries
