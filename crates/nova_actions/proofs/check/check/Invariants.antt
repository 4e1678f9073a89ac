use Rattle.std.proofs.Common.{◌≡◌}
use Rattle.nova_actions.proofs.check.check.Given as goal

abbrev pub invariant-loop-path : goal.invariant-loop-path
invariant-loop-path g l = g.F.Files.held l.files ≡ g.F.Files.held l.fn.files
