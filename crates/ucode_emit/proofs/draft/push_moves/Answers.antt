use Rattle.std.proofs.Common.{map, [], ◌∷◌, arith}
use Rattle.ucode_emit.specs.Pieces.{moved, move_instr}
use Rattle.ucode_emit.specs.inner.DraftItems.{draft}
use Rattle.ucode_emit.proofs.Turns.{turn, instrs_last}
use Rattle.ucode_emit.proofs.draft.push_moves.Goals as goal

pub loop-m-preserved : goal.loop-m-preserved
loop-m-preserved c =
    turn (λ ms. map draft (moved ms)) (λ m. move_instr m.0 m.1 ∷ []) instrs_last c.args.moves.now c.loop-m.m-index _ c.args.code.now c.loop-m.code c.push_move.new.code (omega arith) c.in_ok-push_move.ensures c.loop-m.invariant
