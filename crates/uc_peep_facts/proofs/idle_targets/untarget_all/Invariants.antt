use Rattle.std.proofs.Common.{get_or, ◌+◌}
use Rattle.uc_peep_facts.specs.inner.Operands.{IsUntargeted}
use Rattle.uc_peep_facts.proofs.Putting.{ArePutTo}
use Rattle.uc_peep_facts.proofs.idle_targets.untarget_all.Given as goal

abbrev pub invariant-loop-x : goal.invariant-loop-x
invariant-loop-x l = ArePutTo (λ x i j. IsUntargeted (get_or l.sets (x + 1) 0) i j) l.fn.draft l.draft l.x
