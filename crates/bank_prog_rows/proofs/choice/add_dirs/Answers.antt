use Rattle.std.proofs.Common.{◌++◌, map, arith}
use Rattle.std.specs.List.{flat_map}
use Rattle.bank_prog_form.specs.Rows as lines
use Rattle.bank_prog_form.proofs.Loops.{out-more, out-all}
use Rattle.bank_prog_rows.proofs.choice.add_dirs.Goals as goal
use Rattle.place_plan.specs.inner.UseViews.{use_view}

pub loop-u-preserved : goal.loop-u-preserved
loop-u-preserved c =
    out-more (lines.dir) use_view c.args.uses.now c.loop-u.u-index _ c.loop-u.cs.items c.add_dir.new.cs.items
    (c.args.cs.now.items ++ flat_map (lines.dir) (map use_view c.args.uses.now)) (omega arith) c.in_ok-add_dir.ensures c.loop-u.invariant

pub returns : goal.returns
returns c = out-all (lines.dir) use_view c.args.uses.now c.loop-u.u-index c.loop-u.cs.items (c.args.cs.now.items ++ flat_map (lines.dir) (map use_view c.args.uses.now)) (omega arith) c.loop-u.invariant
