use Rattle.std.proofs.Common.{map, arith}
use Rattle.bank_prog_form.specs.inner.Form.{access_view}
use Rattle.reg_assign_reading.specs.ReadOff.{access_first}
use Rattle.reg_assign_reading.specs.inner.Reading.{says}
use Rattle.reg_assign.proofs.Placed.{first-same, map-more, map-all}
use Rattle.reg_assign.proofs.serves.firsts_of.Goals as goal

pub loop-a-preserved : goal.loop-a-preserved
loop-a-preserved c =
    let f = access_first (says c.args.r.now) in
    map-more f access_view c.args.accesses.now c.loop-a.a-index _ c.loop-a.firsts.items c.push.new.self.items _ (map f (map access_view c.args.accesses.now)) (omega arith) c.in_ok-push.ensures.items (first-same _ _ _ c.begins.ensures) c.loop-a.invariant

pub returns : goal.returns
returns c =
    let f = access_first (says c.args.r.now) in
    map-all f access_view c.args.accesses.now c.loop-a.a-index c.loop-a.firsts.items (map f (map access_view c.args.accesses.now)) (omega arith) c.loop-a.invariant
