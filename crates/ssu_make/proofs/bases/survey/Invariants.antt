use Rattle.flow_ir.specs.View.{tree_view}
use Rattle.ssu_make.specs.inner.Making.{counted, tops}
use Rattle.ssu_make.proofs.Along.{Surveys, weights}
use Rattle.ssu_make.proofs.bases.survey.Given as goal

abbrev pub invariant-loop-s : goal.invariant-loop-s
invariant-loop-s l = Surveys (tree_view l.t) l.initial.found.items (tops l.work.items) (counted l.counts) l.found.items

abbrev pub decreases-loop-s : goal.decreases-loop-s
decreases-loop-s l = weights (tops l.work.items)
