use Rattle.std.proofs.Common.{◌++◌, ◌∷◌, [], ap, ◌∙◌, codes, decimal}
use Rattle.std.specs.List.{flat_map}
use Rattle.zo_model.proofs.Pieces.{listed_pieces}
use Rattle.zo_cert_tree.specs.Node.{multiplier_text}
use Rattle.zo_cert_tree.proofs.Written.{piece_as}
use Rattle.zo_cert_tree.proofs.node_text.push_node.Goals as goal

pub returns-in-Bound : goal.returns-in-Bound
returns-in-Bound c =
    rw c.in-Bound.is (piece_as c.push_bound.result _ _ _ _ (ap (λ ms. codes "d " ++ (decimal c.in-Bound.denominator ++ (flat_map (λ m. 32 ∷ multiplier_text m) ms ++ 10 ∷ []))) c.deref.ensures.value ∙ ap (λ t. codes "d " ++ t) (listed_pieces (decimal c.in-Bound.denominator) multiplier_text c.in-Bound.multipliers.items)) c.push_bound.ensures)

pub returns-in-Clash : goal.returns-in-Clash
returns-in-Clash c =
    rw c.in-Clash.is (piece_as c.push_clash.result _ _ _ _ (ap (λ ms. codes "k" ++ (flat_map (λ m. 32 ∷ multiplier_text m) ms ++ 10 ∷ [])) c.deref-in-Clash.ensures.value ∙ listed_pieces (codes "k") multiplier_text c.in-Clash.multipliers.items) c.push_clash.ensures)
