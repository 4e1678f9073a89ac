use Rattle.std.proofs.Common.{refl, arith}
use Rattle.place_weights.specs.inner.Fault.{cut}
use Rattle.place_weights.proofs.Lines.{no_line_other}
use Rattle.place_weights.proofs.Faults.{no_counts, one_count_more, count_fault}
use Rattle.place_weights.proofs.read.read_counts.Goals as goal

pub loop-i-init : goal.loop-i-init
loop-i-init c = no_counts c.args.lines.now _ c.new-counts.ensures.items

pub returns-in_default-clause-err : goal.returns-in_default-clause-err
returns-in_default-clause-err c = count_fault c.args.n c.args.lines.now c.loop-i.lines c.loop-i.counts.items c.loop-i.i _ c.loop-i.invariant c.loop-i-test.true refl (cut c.in_default.ensures.none)

pub returns-in_default-counted_of-clause-err : goal.returns-in_default-counted_of-clause-err
returns-in_default-counted_of-clause-err c =
    count_fault c.args.n c.args.lines.now c.loop-i.lines c.loop-i.counts.items c.loop-i.i _ c.loop-i.invariant c.loop-i-test.true refl (no_line_other _ _ _ _ c.in-Some.ensures.line c.in-Some.ensures.one c.in_default-counted_of.ensures.none)

pub loop-i-preserved : goal.loop-i-preserved
loop-i-preserved c =
    one_count_more c.args.lines.now c.loop-i.lines c.next_line.new.self c.loop-i.counts.items c.push.new.self.items c.in-Some.line.now c.loop-i.i c.in-Some-counted_of.count c.loop-i.invariant c.in-Some.ensures.line c.in-Some-counted_of.ensures.some.1 (omega (arith, c.in-Some-counted_of.ensures.some.0)) c.in_ok-push.ensures.items
