use Rattle.std.proofs.Common.{◌∙◌, ◌≤◌, ap, length, arith}
use Rattle.std.proofs.lemmas.List.{take_all}
use Rattle.nv_types_table.specs.inner.Cells.{still}
use Rattle.nv_types_table.proofs.Sums.{sum_of, sum_more, bits_total}
use Rattle.nv_types_table.proofs.shapes.total_bits.Goals as goal

pub loop-m-preserved : goal.loop-m-preserved
loop-m-preserved c = sum_more (λ m. m.bits) c.args.members.now c.loop-m.m-index c.m-item.result c.loop-m.total _ c.loop-m-test.true c.m-item.is c.loop-m.invariant c.saturating_add-total.ensures

pub returns : goal.returns
returns c = λ s os h.
    let past : length c.args.members.now ≤ c.loop-m.m-index = omega arith in
    c.loop-m.invariant ∙ ap (λ l. still (sum_of (λ m. m.bits) l)) (take_all c.loop-m.m-index c.args.members.now past) ∙ bits_total s c.args.members.now os h
