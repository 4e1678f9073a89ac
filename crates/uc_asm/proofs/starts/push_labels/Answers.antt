use Rattle.uc_asm.proofs.NumberedLemmas.{label-more}
use Rattle.uc_asm.proofs.starts.push_labels.Goals as goal

pub loop-number-preserved : goal.loop-number-preserved
loop-number-preserved c =
    label-more c.args.out.now.items c.args.numbers.now c.loop-number.number-index c.from.result c.loop-number.out.items c.push.new.self.items c.push_decimal.new.out.items c.extend_from_slice.new.self.items
    c.loop-number-test.true c.from.ensures c.loop-number.invariant c.in_ok-push.ensures.items c.in_ok-push_decimal.ensures.ok c.in_ok-extend_from_slice.ensures.items
