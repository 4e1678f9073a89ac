use Rattle.std.proofs.Common.{map, arith}
use Rattle.std.specs.List.{flat_map}
use Rattle.bank_prog_rows.specs.inner.Waiting.{written_only}
use Rattle.bank_prog_form.proofs.Loops.{out-more, out-all}
use Rattle.bank_prog_rows.proofs.waiting.written_words.Goals as goal
use Rattle.place_plan.specs.inner.UseViews.{use_view}

pub loop-u-preserved : goal.loop-u-preserved
loop-u-preserved c =
    out-more written_only use_view c.args.uses.now c.loop-u.u-index _ (map use_view c.loop-u.kept.items) (map use_view c.keep_written.new.kept.items) (flat_map written_only (map use_view c.args.uses.now)) (omega arith)
    c.in_ok-keep_written.ensures c.loop-u.invariant

pub returns : goal.returns
returns c = out-all written_only use_view c.args.uses.now c.loop-u.u-index (map use_view c.loop-u.kept.items) (flat_map written_only (map use_view c.args.uses.now)) (omega arith) c.loop-u.invariant
