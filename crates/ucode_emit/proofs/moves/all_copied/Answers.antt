use Rattle.std.proofs.Common.{arith}
use Rattle.ucode_emit.specs.Pieces as pieces
use Rattle.ucode_emit.proofs.Turns.{turn, copied_last}
use Rattle.ucode_emit.proofs.moves.all_copied.Goals as goal

pub loop-at-preserved : goal.loop-at-preserved
loop-at-preserved c =
    turn (pieces.all_copied c.args.s c.args.from) (pieces.copied c.args.s c.args.from) (copied_last c.args.s c.args.from) c.args.copies.now c.loop-at.at-index _ c.args.moves.now.items c.loop-at.moves.items c.copied.new.moves.items (omega arith) c.in_ok-copied.ensures c.loop-at.invariant
