use Rattle.std.proofs.Common.{[], ◌∷◌, ◌++◌, length, ap, ◌∙◌}
use Rattle.place_weights.specs.WeightsText.{weights_line, weights_text}
use Rattle.place_weights.proofs.Printed.{printed}
use Rattle.place_weights.proofs.print.print_counts.Goals as goal

pub returns : goal.returns
returns c =
    let first = c.first_counts-first.result.now in
    printed (length first) c.push_counted.new.out.items c.push_counts.new.out.items first (c.in_ok-push_counted.ensures ∙ ap (λ o. o ++ (weights_line (length first) ++ 10 ∷ [])) c.new-out.ensures.items) c.in_ok-push_counts.ensures
    ∙ ap weights_text c.first_counts-first.ensures.first
