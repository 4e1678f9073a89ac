use Rattle.nv_meaning_values.proofs.Grouped.{numbers-more}
use Rattle.nv_meaning_values.proofs.grouping.add_numbers.Goals as goal

pub loop-preserved : goal.loop-preserved
loop-preserved c =
    numbers-more c.args.groups.now.items c.loop.groups.items c.push.new.self.items c.loop.counter c.args.n c.loop.invariant c.in_ok-push.ensures.items
