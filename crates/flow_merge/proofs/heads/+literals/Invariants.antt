use Rattle.std.proofs.Common.{◌+◌, ◌*◌}
use Rattle.flow_merge.proofs.heads.+literals.Given as goal

abbrev pub decreases-literal : goal.decreases-literal
decreases-literal l = 3 * l.depth + 2

abbrev pub decreases-defined : goal.decreases-defined
decreases-defined l = 3 * l.depth + 1

abbrev pub decreases-value : goal.decreases-value
decreases-value l = 3 * l.depth + 3
