use Rattle.std.proofs.Common.{length}
use Rattle.diag_machine.proofs.labels.declared.Given as goal

abbrev pub decreases-loop-line : goal.decreases-loop-line
decreases-loop-line l = length l.lines
