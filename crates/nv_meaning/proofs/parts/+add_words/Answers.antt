use Rattle.std.proofs.Common.{◌<◌, length, arith}
use Rattle.nv_meaning.proofs.Lists.{words_added, field_words_added}
use Rattle.nv_meaning.proofs.parts.+add_words.Goals as goal

pub add_all_words-loop-v-preserved : goal.add_all_words-loop-v-preserved
add_all_words-loop-v-preserved t c =
    let h : c.loop-v.v-index < length c.args.vs.now = omega arith in
    words_added c.args.words.now.items c.loop-v.words.items c.add_words.new.words.items c.args.vs.now c.loop-v.v-index c.v-item.result h c.v-item.is c.loop-v.invariant c.in_ok-add_words.ensures

pub add_field_words-loop-field-preserved : goal.add_field_words-loop-field-preserved
add_field_words-loop-field-preserved t c =
    let h : c.loop-field.field-index < length c.args.fields.now = omega arith in
    field_words_added c.args.words.now.items c.loop-field.words.items c.add_words.new.words.items c.args.fields.now c.loop-field.field-index c.field-item.result h c.field-item.is c.loop-field.invariant c.in_ok-add_words.ensures
