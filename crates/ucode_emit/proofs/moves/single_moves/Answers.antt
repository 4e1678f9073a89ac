use Rattle.std.proofs.Common.{arith}
use Rattle.ucode_emit.specs.Pieces as pieces
use Rattle.ucode_emit.proofs.Turns.{turn, singles_last}
use Rattle.ucode_emit.proofs.moves.single_moves.Goals as goal

pub loop-single-preserved : goal.loop-single-preserved
loop-single-preserved c =
    turn (pieces.single_moves c.args.l) (λ m. pieces.single_move c.args.l m.0 m.1) (singles_last c.args.l) c.args.singles.now c.loop-single.single-index _ c.args.moves.now.items c.loop-single.moves.items c.single_move.new.moves.items (omega arith) c.in_ok-single_move.ensures c.loop-single.invariant
