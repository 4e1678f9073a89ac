use Rattle.std.proofs.Common.{◌≡◌, ◌++◌, ◌∷◌, ap, ◌∙◌, refl, arith, get_or}
use Rattle.std.proofs.lemmas.List.{get_or_default}
use Rattle.zo_cert_tree.specs.Node.{multiplier_text}
use Rattle.zo_model.proofs.Pieces.{piece_more}
use Rattle.zo_cert_tree.proofs.multipliers.push_multipliers.Goals as goal

pub loop-multiplier-preserved : goal.loop-multiplier-preserved
loop-multiplier-preserved c = let x = get_or c.args.multipliers.now c.loop-multiplier.multiplier-index (0, 0) in
    let m = piece_more (λ t. 32 ∷ multiplier_text t) c.args.out.now.items c.args.multipliers.now c.loop-multiplier.multiplier-index (0, 0) x (omega arith) refl in
    let p : c.push_multiplier.new.out.items ≡ c.loop-multiplier.out.items ++ (32 ∷ multiplier_text x) = c.in_ok-push_multiplier.ensures ∙ ap (λ y. c.loop-multiplier.out.items ++ (32 ∷ multiplier_text y)) (get_or_default c.args.multipliers.now c.loop-multiplier.multiplier-index _ (0, 0) (omega arith)) in
    p ∙ (ap (λ t. t ++ (32 ∷ multiplier_text x)) c.loop-multiplier.invariant ∙ m)
