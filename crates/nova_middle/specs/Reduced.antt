-- Flows in which the passes have nothing left to do.
use Rattle.std.specs.Prelude.{List, All}
use Rattle.flow_ir.specs.Tree.{Label}
use Rattle.flow_ir.specs.Reachable.{AreReachable}
use Rattle.cps_rules.specs.Simplified.{AreTidy}
use Rattle.flow_merge.specs.Contracted.{AreMerged}
use Rattle.flow_merge.specs.Wanted.{AllWanted}
use Rattle.ssu_ir.specs.Tree as ssu
use Rattle.ssu_make.specs.Made.{AllMade}
use Rattle.nova_middle.specs.Rules.{IsAtRest}

-- contracted, with no label but those that the first one leads to, with wanted parameters alone in each label but the first, and no `Let` that
-- a rule answers, that is just another operand, or whose variable nothing uses
pub record AreReduced (labels : List Label) : Type 0 where
  pub contracted : AreMerged labels
  pub led : AreReachable labels
  pub wanted : AllWanted labels
  pub rules : All IsAtRest labels
  pub tidy : AreTidy labels

-- a form in single use that is made of such a flow, node by node
abbrev pub IsMadeOfReduced : List ssu.Label → Type 0
IsMadeOfReduced form = (labels : List Label) × AreReduced labels × AllMade 0 labels form
