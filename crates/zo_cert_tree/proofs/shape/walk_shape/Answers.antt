use Rattle.std.proofs.Common.{◌≡◌, ◌+◌, take, ◌∷◌, [], arith, rules}
use Rattle.std.proofs.lemmas.Grind.{common_steps}
use Rattle.zo_cert_tree.specs.Certificate.{branches}
use Rattle.zo_cert_tree.proofs.Nodes.{branches-more, branches_one}
use Rattle.zo_cert_tree.proofs.shape.walk_shape.Goals as goal

pub loop-node-preserved : goal.loop-node-preserved
loop-node-preserved c =
    let more : branches (take (c.loop-node.node-index + 1) c.args.nodes.now) ≡ branches (take c.loop-node.node-index c.args.nodes.now) + branches (c.node-item.result ∷ []) = branches-more c.args.nodes.now c.loop-node.node-index c.node-item.result (omega arith) c.node-item.is in
    let one = branches_one c.node-item.result in
    let count = c.branches_of-count.ensures in
    record {
      same_costs = search rules;
      counted = omega arith;
      few = omega arith;
      walks = grind (arith, common_steps);
    }
