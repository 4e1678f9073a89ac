use Rattle.std.proofs.Common.{ap, ◌∙◌, length, get_or, arith}
use Rattle.place_ir_checks.proofs.Walked.{get-item, body-has, sources-start}
use Rattle.place_ir_checks.proofs.points.value_of.Goals as goal

pub loop-l-init : goal.loop-l-init
loop-l-init c = sources-start c.args.s.now c.args.z

pub source_under-requires : goal.source_under-requires
source_under-requires c = body-has c.args.s.now c.loop-l.l-index c.l-item.result (get-item c.args.s.now.labels.items c.loop-l.l-index c.l-item.result (omega (arith, c.loop-l-test.true, ap length c.deref-l-items.ensures.value)) (c.l-item.is ∙ ap (λ l. get_or l c.loop-l.l-index c.l-item.result) c.deref-l-items.ensures.value))
