use Rattle.std.proofs.Common.{◌≡◌, ◌<◌, ◌≤◌, Some, slice_get, length, max, arith}
use Rattle.std.proofs.lemmas.Option.{slice_get_within}
use Rattle.uc_contexts.proofs.Sharing.{mark-at, ends-next}
use Rattle.uc_contexts.proofs.compare.end_of_writes.Goals as goal

pub loop-f-preserved : goal.loop-f-preserved
loop-f-preserved c =
    let f = c.f-item.result in
    let at : slice_get c.args.footprints.now c.loop-f.f-index ≡ Some f = mark-at c.args.footprints.now c.loop-f.f-index f c.loop-f-test.true c.f-item.is in
    let greatest : c.max-end.result ≡ max c.size.result c.loop-f.end = c.max-end.ensures in
    let more : c.loop-f.end ≤ c.max-end.result = omega arith in
    let less : c.size.result ≤ c.max-end.result = omega arith in
    ends-next c.args.footprints.now c.args.m c.loop-f.f-index c.loop-f.end c.max-end.result c.size.result f at c.loop-f.invariant more less c.size.ensures.within

pub returns : goal.returns
returns c = λ i f is.
    let there : i < length c.args.footprints.now = slice_get_within c.args.footprints.now i f is in
    let less : i < c.loop-f.f-index = omega arith in
    c.loop-f.invariant i f less is
