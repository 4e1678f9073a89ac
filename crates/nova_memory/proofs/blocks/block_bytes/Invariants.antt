use Rattle.std.proofs.Common.{◌≡◌}
use Rattle.nova_memory.proofs.blocks.block_bytes.Given as goal

abbrev pub invariant-loop-token : goal.invariant-loop-token
invariant-loop-token l = l.count ≡ l.token-index
