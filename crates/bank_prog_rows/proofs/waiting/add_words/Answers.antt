use Rattle.std.proofs.Common.{◌++◌, map, arith}
use Rattle.std.specs.List.{flat_map}
use Rattle.bank_prog_rows.specs.inner.Waiting as waits
use Rattle.bank_prog_form.proofs.Loops.{out-more, out-all}
use Rattle.bank_prog_rows.proofs.waiting.add_words.Goals as goal
use Rattle.place_plan.specs.inner.UseViews.{use_view}

pub loop-u-preserved : goal.loop-u-preserved
loop-u-preserved c =
    out-more (waits.word_early c.args.sdram c.args.r) use_view c.args.us.now c.loop-u.u-index _ c.loop-u.cs.items c.add_word.new.cs.items
    (c.args.cs.now.items ++ flat_map (waits.word_early c.args.sdram c.args.r) (map use_view c.args.us.now)) (omega arith) c.in_ok-add_word.ensures c.loop-u.invariant

pub returns : goal.returns
returns c = out-all (waits.word_early c.args.sdram c.args.r) use_view c.args.us.now c.loop-u.u-index c.loop-u.cs.items (c.args.cs.now.items ++ flat_map (waits.word_early c.args.sdram c.args.r) (map use_view c.args.us.now)) (omega arith) c.loop-u.invariant
