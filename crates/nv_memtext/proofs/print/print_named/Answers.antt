use Rattle.std.proofs.Common.{ℕ, List, ◌++◌, ◌∷◌, [], ap, ◌∙◌}
use Rattle.nv_memtext.specs.OutcomeText.{named_text, outcome_line, name_lines, state_lines}
use Rattle.nv_memtext.proofs.PrintLemmas.{named_pieces}
use Rattle.nv_memtext.proofs.print.print_named.Goals as goal

pub returns-in_ok-push_state-in-Some : goal.returns-in_ok-push_state-in-Some
unfolding named_text
returns-in_ok-push_state-in-Some c =
    rw c.in-Some.is (
    named_pieces (outcome_line c.args.o.now) (name_lines c.args.o.now (c.in-Some.line, c.in-Some.bytes.now)) (state_lines c.args.p.now c.args.log.now)
    c.push_outcome.new.out.items c.push_name.new.out.items c.push_state.new.out.items
    (c.in_ok-push_outcome-in-Some.ensures ∙ ap (λ (t : List ℕ). t ++ (outcome_line c.args.o.now ++ 10 ∷ [])) c.new-out.ensures.items)
    c.in_ok-push_name-in-Some.ensures c.in_ok-push_state-in-Some.ensures)
