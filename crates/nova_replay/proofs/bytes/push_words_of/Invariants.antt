use Rattle.std.proofs.Common.{◌≡◌, ◌++◌, length}
use Rattle.nova_memory.specs.Readable.{words_of}
use Rattle.nova_replay.proofs.bytes.push_words_of.Given as goal

-- the words so far, and those of the rest
abbrev pub invariant-loop-rest : goal.invariant-loop-rest
invariant-loop-rest l = l.words.items ++ words_of l.rest ≡ l.initial.words.items ++ words_of l.bytes

abbrev pub decreases-loop-rest : goal.decreases-loop-rest
decreases-loop-rest l = length l.rest
