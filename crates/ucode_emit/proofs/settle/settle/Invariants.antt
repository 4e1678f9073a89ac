use Rattle.std.proofs.Common.{◌≡◌, map, take}
use Rattle.ucode_emit.specs.inner.DraftItems as drafts
use Rattle.ucode_emit.proofs.settle.settle.Given as goal

abbrev pub invariant-loop-i : goal.invariant-loop-i
invariant-loop-i l = l.code.items ≡ map (drafts.settled l.places) (take l.i-index l.draft)
