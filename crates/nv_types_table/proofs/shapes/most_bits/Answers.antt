use Rattle.std.proofs.Common.{◌∙◌, ◌≤◌, ap, length, arith}
use Rattle.std.proofs.lemmas.List.{take_all}
use Rattle.nv_types_table.proofs.Sums.{most_of, most_more, bits_most}
use Rattle.nv_types_table.proofs.shapes.most_bits.Goals as goal

pub loop-m-preserved : goal.loop-m-preserved
loop-m-preserved c = most_more (λ m. m.bits) c.args.members.now c.loop-m.m-index c.m-item.result c.loop-m.most _ c.loop-m-test.true c.m-item.is c.loop-m.invariant c.max-most.ensures

pub returns : goal.returns
returns c = λ s os h.
    let past : length c.args.members.now ≤ c.loop-m.m-index = omega arith in
    c.loop-m.invariant ∙ ap (λ l. (most_of (λ m. m.bits) l)) (take_all c.loop-m.m-index c.args.members.now past) ∙ bits_most s c.args.members.now os h
