use Rattle.std.proofs.Common.{map, arith}
use Rattle.std.specs.List.{flat_map}
use Rattle.place_plan.specs.Plan.{home_view}
use Rattle.bank_prog_form.specs.inner.Form.{value_view}
use Rattle.bank_prog_form.proofs.Loops.{out-more, out-all}
use Rattle.reg_assign.specs.inner.AssignmentInputs.{labels_in, says_in, numbers_in}
use Rattle.reg_assign_reading.specs.inner.Reading.{preferred_home}
use Rattle.reg_assign.proofs.homes.homes_of.Goals as goal

pub loop-v-preserved : goal.loop-v-preserved
loop-v-preserved c =
    let f = preferred_home (labels_in c.args.g.now) (says_in c.args.g.now) (numbers_in c.args.g.now) in
    out-more f value_view c.args.values.now c.loop-v.v-index _ (map home_view c.loop-v.homes.items) (map home_view c.push_home.new.out.items) (flat_map f (map value_view c.args.values.now)) (omega arith) c.in_ok-push_home.ensures c.loop-v.invariant

pub returns : goal.returns
returns c =
    let f = preferred_home (labels_in c.args.g.now) (says_in c.args.g.now) (numbers_in c.args.g.now) in
    out-all f value_view c.args.values.now c.loop-v.v-index (map home_view c.loop-v.homes.items) (flat_map f (map value_view c.args.values.now)) (omega arith) c.loop-v.invariant
