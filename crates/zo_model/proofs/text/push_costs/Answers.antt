use Rattle.std.proofs.Common.{◌++◌, ◌∷◌, [], ap, ◌∙◌, arith}
use Rattle.zo_model.specs.ProgramText.{cost_line}
use Rattle.zo_model.proofs.Pieces.{line_next}
use Rattle.zo_model.proofs.text.push_costs.Goals as goal

pub loop-cost-preserved : goal.loop-cost-preserved
loop-cost-preserved c =
    c.in_ok-push_counted.ensures ∙ (ap (λ t. t ++ (cost_line c.from.result ++ 10 ∷ [])) c.loop-cost.invariant ∙ line_next cost_line c.args.out.now.items c.args.costs.now c.loop-cost.cost-index 0 c.from.result (omega arith) c.from.ensures)
