use Rattle.place_weights.proofs.Faults.{HasCounts}
use Rattle.place_weights.proofs.read.read_counts.Given as goal

abbrev pub invariant-loop-i : goal.invariant-loop-i
invariant-loop-i l = HasCounts l.initial.lines l.lines l.counts.items l.i
