use Rattle.std.proofs.Common.{◌≡◌, ◌++◌, map, take}
use Rattle.ucode_emit.specs.Pieces.{moved}
use Rattle.ucode_emit.specs.inner.DraftItems.{draft}
use Rattle.ucode_emit.proofs.draft.push_moves.Given as goal

abbrev pub invariant-loop-m : goal.invariant-loop-m
invariant-loop-m l = l.code ≡ l.initial.code ++ map draft (moved (take l.m-index l.moves))
