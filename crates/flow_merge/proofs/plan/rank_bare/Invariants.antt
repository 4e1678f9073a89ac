use Rattle.std.proofs.Common.{vec_len}
use Rattle.flow_merge.proofs.plan.rank_bare.Given as goal

abbrev pub decreases-loop-k : goal.decreases-loop-k
decreases-loop-k l = vec_len l.chain
