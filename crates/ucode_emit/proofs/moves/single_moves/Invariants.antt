use Rattle.std.proofs.Common.{◌≡◌, ◌++◌, take}
use Rattle.ucode_emit.specs.Pieces as pieces
use Rattle.ucode_emit.proofs.moves.single_moves.Given as goal

abbrev pub invariant-loop-single : goal.invariant-loop-single
invariant-loop-single l = l.moves.items ≡ l.initial.moves.items ++ pieces.single_moves l.l (take l.single-index l.singles)
