use Rattle.uc_contexts.proofs.Footing.{Footed}
use Rattle.uc_contexts.proofs.alone.footprint.Given as goal

abbrev pub invariant-loop : goal.invariant-loop
invariant-loop l = Footed l.c l.fn.p l.args l.base l.counter l.e l.p l.marks
