use Rattle.std.proofs.Common.{◌<◌, length, arith}
use Rattle.nv_lines.specs.Line.{text_of}
use Rattle.novac_machine.specs.Scheduled.{context_lines}
use Rattle.novac_machine.proofs.Turns.{lines-next}
use Rattle.novac_machine.proofs.contexts.turns_text.Goals as goal

pub loop-i-preserved : goal.loop-i-preserved
loop-i-preserved c =
    let there : c.loop-i.i < length c.args.contexts.now = omega (arith, c.loop-i-test.true, c.requires) in
    lines-next c.args.contexts.now c.loop-i.i c.loop-i.out.items c.push_context.new.out.items (text_of (context_lines 0 c.args.contexts.now)) there (λ x is. c.in_ok-push_context.ensures x is) c.loop-i.invariant
