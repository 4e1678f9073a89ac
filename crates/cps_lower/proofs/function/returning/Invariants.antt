use Rattle.cps_lower.proofs.Handing.{Names}
use Rattle.cps_lower.proofs.function.returning.Given as goal

abbrev pub invariant-loop-i : goal.invariant-loop-i
invariant-loop-i l = Names l.first l.i l.params.items l.words.items
