use Rattle.std.proofs.Common.{◌+◌, ap, ◌∙◌}
use Rattle.nova_middle.proofs.Nodes.{of_let}
use Rattle.nova_middle.proofs.parts.let_part.Goals as goal

pub returns : goal.returns
returns c = of_let _ _ _ _ _ _ c.in_ok-live.ensures c.in_ok-add_prim.ensures (c.in_ok-sum.ensures ∙ ap (λ k. k + 3) c.count.ensures) c.max-width.ensures
