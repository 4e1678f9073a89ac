use Rattle.std.proofs.Common.{[], ◌∷◌, ◌++◌, ap, ◌∙◌}
use Rattle.place_plan.specs.declared.place.Pass.{Pass}
use Rattle.place_plan.proofs.parts.spill_node.Goals as goal

pub returns : goal.returns
returns c = record {
  homes = c.in_ok-node_homes.ensures c.args.point;
  firsts = c.in_ok-node_first.ensures;
  serves = c.in_ok-node_serves.ensures;
  passes = c.in_ok-push.ensures.items ∙ ap (λ (p : Pass). c.args.parts.now.passes.items ++ p ∷ []) c.node_pass.ensures;
}
