use Rattle.std.proofs.Common.{◌≡◌, ◌++◌, take}
use Rattle.ucode_emit.specs.inner.DraftItems as drafts
use Rattle.ucode_emit.proofs.fetch.words.Given as goal

abbrev pub invariant-loop-serve : goal.invariant-loop-serve
invariant-loop-serve l = l.moves.items ≡ l.initial.moves.items ++ drafts.each_fetch (drafts.word_fetch l.l) (take l.serve-index l.serves)
