use Rattle.uc_peep_facts.specs.Facts.{known_at}
use Rattle.uc_peep_facts.specs.inner.Operands.{IsReread}
use Rattle.uc_peep_facts.proofs.Putting.{ArePutTo}
use Rattle.uc_peep_facts.proofs.sources.reread_all.Given as goal

abbrev pub invariant-loop-x : goal.invariant-loop-x
invariant-loop-x l = ArePutTo (λ x i j. IsReread (known_at l.table x) i j) l.fn.draft l.draft l.x
