use Rattle.std.proofs.Common.{nat_eq, map, arith}
use Rattle.std.specs.HashMap.{get}
use Rattle.std.specs.List.{flat_map}
use Rattle.bank_prog_rows.specs.inner.Waiting.{kept_waiting}
use Rattle.bank_prog_form.proofs.Loops.{out-more, out-all}
use Rattle.bank_prog_rows.proofs.waiting.words_of_point.Goals as goal
use Rattle.place_plan.specs.inner.UseViews.{use_view}

pub loop-u-preserved : goal.loop-u-preserved
loop-u-preserved c =
    let f = kept_waiting c.args.below.now (get nat_eq c.args.defined.now) c.args.k in
    out-more f use_view c.args.uses.now c.loop-u.u-index _ (map use_view c.loop-u.kept.items) (map use_view c.keep_waiting.new.kept.items) (flat_map f (map use_view c.args.uses.now)) (omega arith) c.in_ok-keep_waiting.ensures c.loop-u.invariant

pub returns : goal.returns
returns c =
    let f = kept_waiting c.args.below.now (get nat_eq c.args.defined.now) c.args.k in
    out-all f use_view c.args.uses.now c.loop-u.u-index (map use_view c.loop-u.kept.items) (flat_map f (map use_view c.args.uses.now)) (omega arith) c.loop-u.invariant
