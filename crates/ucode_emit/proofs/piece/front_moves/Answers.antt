use Rattle.std.proofs.Common.{None}
use Rattle.place_plan.specs.Plan.{plan_view}
use Rattle.ucode_emit.specs.Pieces as pieces
use Rattle.ucode_emit.specs.inner.Given as given
use Rattle.ucode_emit.proofs.Serving.{copied_here, appended}
use Rattle.ucode_emit.proofs.piece.front_moves.Goals as goal

pub returns : goal.returns
returns c =
    let p = plan_view c.args.p.now in
    let emit_context = c.args.emit_context.now in
    appended c.copy_each.new.moves.items c.single_moves.new.moves.items c.new-moves.result.items (pieces.single_moves None emit_context.singles.now) (given.each_copied p emit_context.pass.s c.args.params.now) (pieces.all_copies p emit_context.point c.args.params.now)
    c.in_ok-copy_each.ensures c.in_ok-single_moves.ensures c.new-moves.ensures.items (copied_here p 0 emit_context c.args.params.now c.requires.emit_context)
