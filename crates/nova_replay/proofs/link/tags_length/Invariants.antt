use Rattle.std.proofs.Common.{◌≡◌, ◌+◌, ◌≤◌, length}
use Rattle.nova_replay.specs.Frames.{tags_length}
use Rattle.nova_replay.proofs.link.tags_length.Given as goal

-- the length so far, and that of the tags of the rest
abbrev pub invariant-loop-rest : goal.invariant-loop-rest
invariant-loop-rest l = (l.len + tags_length l.rest ≡ tags_length l.bytes) × (l.len + length l.rest ≤ length l.bytes)

abbrev pub decreases-loop-rest : goal.decreases-loop-rest
decreases-loop-rest l = length l.rest
