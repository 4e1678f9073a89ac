use Rattle.std.proofs.Common.{[], ◌∷◌, ◌++◌, sym, ap, ◌∙◌, arith}
use Rattle.std.specs.List.{range_with_len}
use Rattle.flow_literals.proofs.Ranges.{range_last}
use Rattle.flow_literals.proofs.names.stretch.Goals as goal

pub loop-preserved : goal.loop-preserved
loop-preserved c =
    let same = c.loop.invariant.0 in
    let more = c.in-Some.ensures in (
      omega (arith, same, more),
      c.in_ok-push.ensures.items ∙ ap (λ l. l ++ c.loop.next ∷ []) c.loop.invariant.1 ∙ ap (λ z. range_with_len c.args.first c.loop.counter ++ z ∷ []) same ∙ sym (range_last c.loop.counter c.args.first),
    )
