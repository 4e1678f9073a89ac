use Rattle.std.proofs.Common.{◌||◌, ap, ◌∙◌, arith}
use Rattle.flow_words.specs.Bits as spec
use Rattle.flow_words.specs.Tables.{look}
use Rattle.flow_words.proofs.Filling.{free_more, fill_next, all_bits}
use Rattle.flow_words.proofs.bits.sum_bits.Goals as goal

pub loop-i-preserved : goal.loop-i-preserved
loop-i-preserved c =
    let T = look c.args.table.now in
    let f = spec.sum_bit T c.args.a c.args.b in
    let next = fill_next f c.loop-i.bits c.loop-i.i c.sum_bit.result c.loop-i.invariant.1 c.loop-i-test.true c.sum_bit.ensures c.loop-i.invariant.2 in
    let one = c.is_zero.ensures ∙ ap spec.is_zero c.atom_bit.ensures in
    let two = c.is_zero-in-loop-i.ensures ∙ ap spec.is_zero c.atom_bit-in-loop-i.ensures in
    let apart = c.one-apart.ensures ∙ ap (λ z. z || c.is_zero-in-loop-i.result) one ∙ ap (λ z. spec.is_zero (spec.atom_bit T c.args.a c.loop-i.i) || z) two in
    (free_more T c.args.a c.args.b c.loop-i.i c.loop-i.free c.one-apart.result c.both-free.result c.loop-i.invariant.0 apart c.both-free.ensures, next.0, next.1)

pub returns : goal.returns
returns c = let done = c.loop-i-test.false in all_bits (spec.sum_bit (look c.args.table.now) c.args.a c.args.b) c.loop-i.bits c.loop-i.invariant.1 (λ k lt. c.loop-i.invariant.2 k (omega (arith, lt, done)))
