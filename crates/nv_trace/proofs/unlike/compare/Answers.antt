use Rattle.std.proofs.Common.{◌<◌, ◌∙◌, ap, length, refl, arith}
use Rattle.nv_meaning_values.specs.declared.trace.Made as code
use Rattle.nv_trace.proofs.Unlikes.{same-further}
use Rattle.nv_trace.proofs.unlike.compare.Goals as goal

pub loop-i-preserved : goal.loop-i-preserved
loop-i-preserved c =
    let left : c.loop-i.i < length c.kept-made.result.now = grind (arith, c.min-both.ensures, c.loop-i-test.true) in
    let right : c.loop-i.i < length c.kept-noted.result.now = grind (arith, c.min-both.ensures, c.loop-i-test.true) in (
      omega (arith, c.loop-i-test.true),
      same-further c.loop-i.i c.kept-made.result.now c.kept-noted.result.now c.index-made-i.result c.index-noted-i.result left right c.index-made-i.is c.index-noted-i.is c.loop-i.invariant.1 (ap (λ (x : code.Made). x.write) c.index-made-i.is ∙ c.if-not-is_same.ensures.0 refl),
    )
