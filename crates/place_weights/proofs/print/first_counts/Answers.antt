use Rattle.std.proofs.Common.{◌≡◌, length, take, min, ap, ◌∙◌, arith}
use Rattle.std.proofs.lemmas.List.{take_min}
use Rattle.place_weights.specs.WeightsText.{count_limit}
use Rattle.place_weights.proofs.print.first_counts.Goals as goal

pub returns-clause-first : goal.returns-clause-first
returns-clause-first c =
    let e : c.min-n.result ≡ min count_limit (length c.args.counts.now) = omega (arith, c.min-n.ensures) in
    ap (λ n. take n c.args.counts.now) e ∙ take_min count_limit c.args.counts.now
