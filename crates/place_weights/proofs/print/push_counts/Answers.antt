use Rattle.std.proofs.Common.{◌++◌, ◌∷◌, [], get_or, ap, ◌∙◌, refl}
use Rattle.place_weights.specs.WeightsText.{count_line}
use Rattle.place_weights.proofs.Printed.{line_more}
use Rattle.place_weights.proofs.print.push_counts.Goals as goal

pub loop-count-preserved : goal.loop-count-preserved
loop-count-preserved c =
    let x = get_or c.args.counts.now c.loop-count.count-index 0 in
    c.in_ok-push_counted.ensures ∙ ap (λ t. t ++ (count_line x ++ 10 ∷ [])) c.loop-count.invariant ∙ line_more c.args.out.now.items c.args.counts.now c.loop-count.count-index x c.loop-count-test.true refl
