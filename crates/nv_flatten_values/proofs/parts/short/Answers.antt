use Rattle.std.proofs.Common.{◌<◌, length, arith}
use Rattle.std.proofs.lemmas.List.{get_or_default}
use Rattle.nv_flatten_values.proofs.Lists.{copied-item}
use Rattle.nv_flatten_values.proofs.parts.short.Goals as goal

pub loop-a-preserved : goal.loop-a-preserved
loop-a-preserved c =
    let h : c.loop-a.a-index < length c.args.operands.now = omega arith in
    copied-item c.loop-a.list.items c.push.new.self.items c.args.operands.now c.loop-a.a-index _ h (get_or_default c.args.operands.now c.loop-a.a-index _ _ h) c.loop-a.invariant c.in_ok-push.ensures.ok
