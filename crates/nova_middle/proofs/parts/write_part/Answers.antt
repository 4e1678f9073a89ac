use Rattle.nova_middle.proofs.Nodes.{of_write}
use Rattle.nova_middle.proofs.parts.write_part.Goals as goal

pub returns : goal.returns
returns c = of_write _ _ _ _ c.in_ok-operands_width.ensures c.in_ok-add_all.ensures c.max-width.ensures
