use Rattle.std.proofs.Common.{◌<◌, length, arith}
use Rattle.nv_flatten_values.proofs.Lists.{operands_added, field_operands_added}
use Rattle.nv_flatten_values.proofs.symbol.+add_operands.Goals as goal

pub add_all_operands-loop-s-preserved : goal.add_all_operands-loop-s-preserved
add_all_operands-loop-s-preserved t c =
    let h : c.loop-s.s-index < length c.args.ss.now = omega arith in
    operands_added c.args.found.now.items c.loop-s.found.items c.add_operands.new.found.items c.args.ss.now c.loop-s.s-index c.s-item.result h c.s-item.is c.loop-s.invariant c.in_ok-add_operands.ensures

pub add_field_operands-loop-field-preserved : goal.add_field_operands-loop-field-preserved
add_field_operands-loop-field-preserved t c =
    let h : c.loop-field.field-index < length c.args.fields.now = omega arith in
    field_operands_added c.args.found.now.items c.loop-field.found.items c.add_operands.new.found.items c.args.fields.now c.loop-field.field-index c.field-item.result h c.field-item.is c.loop-field.invariant c.in_ok-add_operands.ensures
