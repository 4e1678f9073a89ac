use Rattle.std.proofs.Common.{◌∙◌, ap, sym, eq-eqb}
use Rattle.std.proofs.lemmas.List.{take_all}
use Rattle.std.proofs.lemmas.Bool.{ne_eqb}
use Rattle.nv_types_table.proofs.Sums.{all_have, have_more, have_other, no_sizes, one_size}
use Rattle.nv_types_table.proofs.shapes.have_one_size.Goals as goal

pub loop-m-preserved : goal.loop-m-preserved
loop-m-preserved c =
    let n = c.in-Some.first.now.1.bits in
    have_more c.in-Some.others.now c.loop-m.m-index c.m-item.result n c.loop-m-test.true c.m-item.is c.loop-m.invariant (eq-eqb _ _ c.if-m-first.false)

pub returns : goal.returns
returns c = λ s os h.
    let n = c.in-Some.first.now.1.bits in
    let all = take_all c.loop-m.m-index c.in-Some.others.now c.loop-m-test.false in
    sym (ap (all_have n) (sym all) ∙ c.loop-m.invariant) ∙ one_size s c.args.members.now c.in-Some.first.now c.in-Some.others.now os c.in-Some.ensures.cases.0 h

pub returns-in_default : goal.returns-in_default
returns-in_default c = λ s os h. no_sizes s c.args.members.now os c.in_default.ensures.cases h

pub returns-then-m-first : goal.returns-then-m-first
returns-then-m-first c = λ s os h.
    let n = c.in-Some.first.now.1.bits in
    sym (have_other c.in-Some.others.now c.loop-m.m-index c.m-item.result n c.loop-m-test.true c.m-item.is c.loop-m.invariant (ne_eqb _ _ c.if-m-first.true)) ∙ one_size s c.args.members.now c.in-Some.first.now c.in-Some.others.now os c.in-Some.ensures.cases.0 h
