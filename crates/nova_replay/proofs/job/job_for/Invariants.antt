use Rattle.std.proofs.Common.{◌≡◌}
use Rattle.nova_replay.proofs.job.job_for.Given as goal

abbrev pub invariant-loop-table : goal.invariant-loop-table
invariant-loop-table g l = g.F.Files.held l.files ≡ g.F.Files.held l.fn.files
