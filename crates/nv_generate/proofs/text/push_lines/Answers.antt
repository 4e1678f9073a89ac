use Rattle.std.proofs.Common.{◌++◌}
use Rattle.nv_generate.specs.Made.{lines_text, lines_from}
use Rattle.nv_generate.proofs.Pieces.{lines_first, line_more, lines_last}
use Rattle.nv_generate.proofs.text.push_lines.Goals as goal

pub loop-i-init : goal.loop-i-init
loop-i-init c = lines_first c.args.out.now.items c.args.size c.args.seed

pub loop-i-preserved : goal.loop-i-preserved
loop-i-preserved c =
    line_more c.loop-i.out.items c.push_line.new.out.items (c.args.out.now.items ++ lines_text 0 (lines_from c.args.size 0 c.args.seed)) c.loop-i.i c.args.size c.loop-i.draws.state c.line-line.new.self.state c.line-line.result
    c.loop-i-test.true c.line-line.ensures.line c.line-line.ensures.after c.in_ok-push_line.ensures c.loop-i.invariant

pub returns : goal.returns
returns c = lines_last c.loop-i.out.items (c.args.out.now.items ++ lines_text 0 (lines_from c.args.size 0 c.args.seed)) c.loop-i.i c.args.size c.loop-i.draws.state c.loop-i-test.false c.loop-i.invariant
