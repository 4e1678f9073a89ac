use Rattle.std.proofs.Common.{◌≡◌}
use Rattle.nova_actions.proofs.listing.load_memories.Given as goal

abbrev pub invariant-loop-name : goal.invariant-loop-name
invariant-loop-name g l = g.F.Files.held l.files ≡ g.F.Files.held l.fn.files
