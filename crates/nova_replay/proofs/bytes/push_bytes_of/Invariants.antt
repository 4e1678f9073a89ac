use Rattle.std.proofs.Common.{◌≡◌, ◌++◌, length}
use Rattle.nova_replay.specs.Frames.{bytes_of}
use Rattle.nova_replay.proofs.bytes.push_bytes_of.Given as goal

-- the bytes so far, and those of the rest
abbrev pub invariant-loop-rest : goal.invariant-loop-rest
invariant-loop-rest l = l.out.items ++ bytes_of l.rest ≡ l.initial.out.items ++ bytes_of l.words

abbrev pub decreases-loop-rest : goal.decreases-loop-rest
decreases-loop-rest l = length l.rest
