use Rattle.std.proofs.Common.{◌++◌}
use Rattle.std.proofs.lemmas.Result.{on_ok_weaker}
use Rattle.nova_fmt.specs.Gaps.{lines, more_lines}
use Rattle.nova_fmt.proofs.Writing.{line_written, last_written}
use Rattle.nova_fmt.proofs.gap.more_lines.Goals as goal

pub loop-first-preserved : goal.loop-first-preserved
loop-first-preserved c =
    line_written c.args.level c.loop-first.rest.now c.in-Some.first.now c.in-Some.more.now c.loop-first.out.items c.line.new.out.items (c.args.out.now.items ++ more_lines c.args.level (lines c.args.bytes.now)) c.in-Some.ensures.split c.in-Some.ensures.first c.in_ok-line.ensures c.loop-first.invariant

pub returns : goal.returns
returns c =
    on_ok_weaker c.line-2.result (λ w. last_written c.args.level c.loop-first.rest.now c.loop-first.out.items c.line-2.new.out.items (c.args.out.now.items ++ more_lines c.args.level (lines c.args.bytes.now)) c.in_default.ensures.none w c.loop-first.invariant) c.line-2.ensures
