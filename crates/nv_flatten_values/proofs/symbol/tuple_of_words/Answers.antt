use Rattle.std.proofs.Common.{◌<◌, length, arith}
use Rattle.std.proofs.lemmas.List.{get_or_default}
use Rattle.nv_flatten_values.proofs.Lists.{words_listed}
use Rattle.nv_flatten_values.proofs.symbol.tuple_of_words.Goals as goal

pub loop-w-preserved : goal.loop-w-preserved
loop-w-preserved c =
    let h : c.loop-w.w-index < length c.args.words.now = omega arith in
    words_listed c.loop-w.ss.items c.push.new.self.items c.args.words.now c.loop-w.w-index _ h (get_or_default c.args.words.now c.loop-w.w-index _ _ h) c.loop-w.invariant c.in_ok-push.ensures.items
