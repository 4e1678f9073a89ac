use Rattle.std.proofs.Common.{map, arith}
use Rattle.reg_assign_reading.specs.ReadOff.{use_serve}
use Rattle.reg_assign.specs.inner.AssignmentInputs.{labels_in, says_in, numbers_in}
use Rattle.reg_assign.proofs.Placed.{map-more, map-all}
use Rattle.reg_assign.proofs.serves.serves_of.Goals as goal
use Rattle.place_plan.specs.inner.UseViews.{use_view}

pub loop-u-preserved : goal.loop-u-preserved
loop-u-preserved c =
    let f = use_serve (labels_in c.args.g.now) (says_in c.args.g.now) (numbers_in c.args.g.now) in
    map-more f use_view c.args.uses.now c.loop-u.u-index _ c.loop-u.serves.items c.push.new.self.items _ (map f (map use_view c.args.uses.now)) (omega arith) c.in_ok-push.ensures.items c.in_ok-use_serve.ensures c.loop-u.invariant

pub returns : goal.returns
returns c =
    let f = use_serve (labels_in c.args.g.now) (says_in c.args.g.now) (numbers_in c.args.g.now) in
    map-all f use_view c.args.uses.now c.loop-u.u-index c.loop-u.serves.items (map f (map use_view c.args.uses.now)) (omega arith) c.loop-u.invariant
