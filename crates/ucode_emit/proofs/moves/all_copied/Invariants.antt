use Rattle.std.proofs.Common.{◌≡◌, ◌++◌, take}
use Rattle.ucode_emit.specs.Pieces as pieces
use Rattle.ucode_emit.proofs.moves.all_copied.Given as goal

abbrev pub invariant-loop-at : goal.invariant-loop-at
invariant-loop-at l = l.moves.items ≡ l.initial.moves.items ++ pieces.all_copied l.s l.from (take l.at-index l.copies)
