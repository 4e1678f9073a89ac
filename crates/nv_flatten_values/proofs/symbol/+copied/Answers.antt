use Rattle.std.proofs.Common.{◌<◌, length, arith, refl}
use Rattle.nv_flatten_values.proofs.Lists.{symbols_copied, fields_copied}
use Rattle.nv_flatten_values.proofs.symbol.+copied.Goals as goal

pub copied_all-loop-s-preserved : goal.copied_all-loop-s-preserved
copied_all-loop-s-preserved t c =
    let h : c.loop-s.s-index < length c.args.ss.now = omega arith in
    symbols_copied c.loop-s.copy.items c.args.ss.now c.push.new.self.items c.loop-s.s-index c.in_ok-copied.field-0 c.s-item.result h c.s-item.is c.loop-s.invariant c.in_ok-copied.ensures c.in_ok-push.ensures.items

pub copied_fields-loop-field-preserved : goal.copied_fields-loop-field-preserved
copied_fields-loop-field-preserved t c =
    let h : c.loop-field.field-index < length c.args.fields.now = omega arith in
    fields_copied c.loop-field.copy.items c.args.fields.now c.push.new.self.items c.loop-field.field-index (c.field-item.result.0, c.in_ok-copied.field-0) c.field-item.result h c.field-item.is c.loop-field.invariant refl c.in_ok-copied.ensures c.in_ok-push.ensures.items
