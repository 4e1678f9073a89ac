use Rattle.flow_merge.proofs.Ranks.{RankedTo}
use Rattle.flow_merge.proofs.params_checks.is_ranked.Given as goal

abbrev pub invariant-loop-j : goal.invariant-loop-j
invariant-loop-j l = RankedTo l.ranks l.i l.l l.j
