use Rattle.std.proofs.Common.{◌++◌, map, arith}
use Rattle.std.specs.List.{flat_map}
use Rattle.bank_prog_form.specs.Columns as columns
use Rattle.bank_prog_form.proofs.Loops.{out-more, out-all}
use Rattle.bank_prog.proofs.early.push_point_ears.Goals as goal
use Rattle.place_plan.specs.inner.UseViews.{use_view}

pub loop-u-preserved : goal.loop-u-preserved
loop-u-preserved c =
    out-more (columns.ear_columns c.args.n) use_view c.args.uses.now c.loop-u.u-index _ c.loop-u.out.items c.push_ear.new.out.items
    (c.args.out.now.items ++ flat_map (columns.ear_columns c.args.n) (map use_view c.args.uses.now)) (omega arith) c.in_ok-push_ear.ensures c.loop-u.invariant

pub returns : goal.returns
returns c = out-all (columns.ear_columns c.args.n) use_view c.args.uses.now c.loop-u.u-index c.loop-u.out.items (c.args.out.now.items ++ flat_map (columns.ear_columns c.args.n) (map use_view c.args.uses.now)) (omega arith) c.loop-u.invariant
