use Rattle.std.proofs.Common.{◌<◌, length, arith}
use Rattle.std.proofs.lemmas.List.{get_or_default}
use Rattle.nv_flatten_values.proofs.Lists.{copied-item}
use Rattle.nv_flatten_values.proofs.parts.short_vars.Goals as goal

pub loop-x-preserved : goal.loop-x-preserved
loop-x-preserved c =
    let h : c.loop-x.x-index < length c.args.vars.now = omega arith in
    copied-item c.loop-x.list.items c.push.new.self.items c.args.vars.now c.loop-x.x-index _ h (get_or_default c.args.vars.now c.loop-x.x-index _ _ h) c.loop-x.invariant c.in_ok-push.ensures.ok
