use Rattle.std.proofs.Common.{◌≡◌, ◌++◌, ◌∷◌, ap, ◌∙◌, refl, arith, get_or, pos}
use Rattle.std.proofs.lemmas.List.{get_or_default}
use Rattle.zo_model.specs.ProgramText.{term_text}
use Rattle.zo_model.proofs.Pieces.{piece_more}
use Rattle.zo_model.proofs.text.push_terms.Goals as goal

pub loop-term-preserved : goal.loop-term-preserved
loop-term-preserved c = let x = get_or c.args.terms.now c.loop-term.term-index (0, pos 0) in
    let m = piece_more (λ t. 32 ∷ term_text t) c.args.out.now.items c.args.terms.now c.loop-term.term-index (0, pos 0) x (omega arith) refl in
    let p : c.push_term.new.out.items ≡ c.loop-term.out.items ++ (32 ∷ term_text x) = c.in_ok-push_term.ensures ∙ ap (λ y. c.loop-term.out.items ++ (32 ∷ term_text y)) (get_or_default c.args.terms.now c.loop-term.term-index _ (0, pos 0) (omega arith)) in
    p ∙ (ap (λ t. t ++ (32 ∷ term_text x)) c.loop-term.invariant ∙ m)
