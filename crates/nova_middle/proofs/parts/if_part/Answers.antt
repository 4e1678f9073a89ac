use Rattle.std.proofs.Common.{max, ◌||◌, ap, ◌∙◌}
use Rattle.nv_base.specs.Sets.{is_in}
use Rattle.nova_middle.proofs.Nodes.{of_if}
use Rattle.nova_middle.proofs.parts.if_part.Goals as goal

pub returns : goal.returns
returns c =
    of_if _ _ _ _ _ _ _ (λ y. c.in_ok-add_each.ensures y ∙ ap (λ l. is_in y l || is_in y c.args.rest.live.xs.items) c.deref.ensures.value) c.in_ok-operands_width.ensures c.in_ok-add_all.ensures
    (c.max-width.ensures ∙ ap (max c.in_ok-operands_width.field-0) c.max.ensures)
