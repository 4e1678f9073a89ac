use Rattle.flow_merge.proofs.Testing.{Fitting}
use Rattle.flow_merge.proofs.checks.all_fit.Given as goal

abbrev pub invariant-loop-i : goal.invariant-loop-i
invariant-loop-i l = Fitting l.counts l.labels l.i
