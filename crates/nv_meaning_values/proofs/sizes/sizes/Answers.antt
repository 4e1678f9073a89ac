use Rattle.std.proofs.Common.{◌∙◌, ap, bytes_eq, take, [], arith}
use Rattle.std.proofs.lemmas.List.{take_all}
use Rattle.std.specs.HashMap.{get_by}
use Rattle.nv_meaning_values.specs.inner.Tables.{laid, layout_pairs}
use Rattle.nv_meaning_values.specs.inner.Sizes.{sizes_of}
use Rattle.nv_meaning_values.proofs.Sizing.{sizes-known, sizes-turn}
use Rattle.nv_meaning_values.proofs.sizes.sizes.Goals as goal

pub loop-l-preserved : goal.loop-l-preserved
loop-l-preserved c =
    let xs = c.args.layouts.now in
    let i = c.loop-l.l-index in
    let known = laid [] (layout_pairs (take i xs)) in
    let these = sizes-known xs (λ x. get_by (λ key. bytes_eq x key.now) c.args.places.now) c.requires i c.deref.result.now (c.deref.ensures.value ∙ c.loop-l.invariant) in
    sizes-turn xs i c.l-item.result c.loop-l.sizes.items _ c.layout_size-bits.result c.loop-l-test.true c.l-item.is c.loop-l.invariant (c.layout_size-bits.ensures known these) c.in_ok-push.ensures.items

pub returns : goal.returns
returns c = c.loop-l.invariant ∙ ap (λ ys. sizes_of (laid [] (layout_pairs ys))) (take_all c.loop-l.l-index c.args.layouts.now (omega arith))
