use Rattle.std.proofs.Common.{◌<◌, length, arith}
use Rattle.nv_meaning_values.proofs.WordLists.{words_listed}
use Rattle.nv_meaning_values.proofs.value.tuple_of_words.Goals as goal

pub loop-w-preserved : goal.loop-w-preserved
loop-w-preserved c =
    let h : c.loop-w.w-index < length c.args.words.now = omega arith in
    words_listed c.loop-w.vs.items c.push.new.self.items c.args.words.now c.loop-w.w-index h c.loop-w.invariant c.in_ok-push.ensures.items
