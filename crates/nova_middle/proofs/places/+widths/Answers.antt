use Rattle.std.proofs.Common.{◌∙◌}
use Rattle.nova_middle.proofs.Spines.{read_node, write_node, if_node}
use Rattle.nova_middle.proofs.places.+widths.Goals as goal

pub node_part-returns-in-Read : goal.node_part-returns-in-Read
node_part-returns-in-Read t c = read_node c.read_part.result c.args.rest _ _ c.in-Read.xs c.in-Read.a _ _ _ c.in-Read.is c.deref.ensures c.requires c.read_part.ensures

pub node_part-returns-in_ok-write_operands-in-Write : goal.node_part-returns-in_ok-write_operands-in-Write
node_part-returns-in_ok-write_operands-in-Write t c =
    write_node c.write_part.result c.args.rest _ _ c.in-Write.a c.in-Write.bs _ _ _ _ c.in-Write.is (c.deref-in-Write-2.ensures.value ∙ c.in_ok-write_operands-in-Write.ensures) c.deref-in-Write.ensures c.requires c.write_part.ensures

pub node_part-returns-in_ok-arm-in-If : goal.node_part-returns-in_ok-arm-in-If
node_part-returns-in_ok-arm-in-If t c = if_node c.if_part.result c.args.rest c.in_ok-arm-in-If.arm _ _ c.in-If.a c.in-If.b _ _ _ _ _ c.in-If.is c.deref-in-If.ensures c.requires c.in_ok-arm-in-If.ensures c.if_part.ensures
