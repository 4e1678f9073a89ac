use Rattle.std.proofs.Common.{◌+◌, [], ◌∷◌, ◌++◌, ap, sym, ◌∙◌}
use Rattle.ssu_make.proofs.Turns.{range-last}
use Rattle.ssu_make.proofs.nodes.stretch.Goals as goal

pub loop-k-preserved : goal.loop-k-preserved
loop-k-preserved c = c.in_ok-push.ensures.items ∙ ap (λ l. l ++ (c.args.first + c.loop-k.k) ∷ []) c.loop-k.invariant ∙ sym (range-last c.loop-k.k c.args.first)
