use Rattle.flow_merge.proofs.Ranks.{AllRankedTo}
use Rattle.flow_merge.proofs.params_checks.are_ranked.Given as goal

abbrev pub invariant-loop-i : goal.invariant-loop-i
invariant-loop-i l = AllRankedTo l.ranks l.labels l.i
