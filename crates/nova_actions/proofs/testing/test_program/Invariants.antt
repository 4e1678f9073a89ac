use Rattle.std.proofs.Common.{◌≡◌}
use Rattle.nova_actions.proofs.testing.test_program.Given as goal

abbrev pub invariant-loop-memory : goal.invariant-loop-memory
invariant-loop-memory g l = g.F.Files.held l.files ≡ g.F.Files.held l.fn.files
