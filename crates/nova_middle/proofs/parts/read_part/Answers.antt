use Rattle.std.proofs.Common.{max, ap, ◌∙◌}
use Rattle.nova_middle.proofs.Nodes.{of_read}
use Rattle.nova_middle.proofs.parts.read_part.Goals as goal

pub returns : goal.returns
returns c = of_read _ _ _ _ _ _ _ _ c.in_ok-live.ensures c.in_ok-node.ensures c.in_ok-add_atom.ensures c.in_ok-add_each.ensures c.count.ensures (c.max-width.ensures ∙ ap (λ i. max i c.args.rest.width) c.max.ensures)
