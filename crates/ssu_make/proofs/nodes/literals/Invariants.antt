use Rattle.ssu_make.proofs.Along.{LiteralsOn}
use Rattle.ssu_make.proofs.nodes.literals.Given as goal

abbrev pub invariant-loop-i : goal.invariant-loop-i
invariant-loop-i l = LiteralsOn l.initial.build l.build l.fn.root.0 l.id.0 l.first l.n l.list l.i

abbrev pub decreases-loop-i : goal.decreases-loop-i
decreases-loop-i l = l.i
