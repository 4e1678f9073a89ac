use Rattle.std.proofs.Common.{ℕ, List, ◌++◌, ◌∷◌, [], ap, ◌∙◌}
use Rattle.nv_lines.specs.Line.{text_of}
use Rattle.nv_memtext.specs.OutcomeText.{outcome_text, outcome_line, state_lines}
use Rattle.nv_memtext.proofs.print.print_outcome.Goals as goal

pub returns : goal.returns
unfolding outcome_text
returns c =
    c.in_ok-push_state.ensures
    ∙ ap (λ (t : List ℕ). t ++ text_of (state_lines c.args.p.now c.args.log.now)) (c.in_ok-push_outcome.ensures ∙ ap (λ (t : List ℕ). t ++ (outcome_line c.args.o.now ++ 10 ∷ [])) c.new-out.ensures.items)
