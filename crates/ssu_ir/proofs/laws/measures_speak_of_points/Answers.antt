use Rattle.std.proofs.Common.{sym, arith}
use Rattle.ssu_ir.specs.Points.{points}
use Rattle.ssu_ir.proofs.PointLemmas.{total-from, all_below_most, length-tree_points}
use Rattle.ssu_ir.proofs.laws.measures_speak_of_points.Goals as goal

pub returns-clause-size : goal.returns-clause-size
returns-clause-size c = λ labels. sym (total-from 0 labels)

pub returns-clause-peak : goal.returns-clause-peak
returns-clause-peak c = λ labels. all_below_most _ (points labels) (omega arith)

pub returns-clause-below : goal.returns-clause-below
returns-clause-below c = length-tree_points
