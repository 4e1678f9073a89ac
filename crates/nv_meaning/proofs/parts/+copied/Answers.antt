use Rattle.std.proofs.Common.{◌<◌, length, arith, refl}
use Rattle.nv_meaning.proofs.Lists.{values_copied, fields_copied}
use Rattle.nv_meaning.proofs.parts.+copied.Goals as goal

pub copied_all-loop-v-preserved : goal.copied_all-loop-v-preserved
copied_all-loop-v-preserved t c =
    let h : c.loop-v.v-index < length c.args.vs.now = omega arith in
    values_copied c.loop-v.copy.items c.args.vs.now c.push.new.self.items c.loop-v.v-index c.in_ok-copied.field-0 c.v-item.result h c.v-item.is c.loop-v.invariant c.in_ok-copied.ensures c.in_ok-push.ensures.items

pub copied_fields-loop-field-preserved : goal.copied_fields-loop-field-preserved
copied_fields-loop-field-preserved t c =
    let h : c.loop-field.field-index < length c.args.fields.now = omega arith in
    fields_copied c.loop-field.copy.items c.args.fields.now c.push.new.self.items c.loop-field.field-index (c.field-item.result.0, c.in_ok-copied.field-0) c.field-item.result h c.field-item.is c.loop-field.invariant refl c.in_ok-copied.ensures c.in_ok-push.ensures.items
