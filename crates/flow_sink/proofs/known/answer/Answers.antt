use Rattle.std.proofs.Common.{sym, ap, ◌∙◌}
use Rattle.flow_sink.specs.inner.Above.{chosen}
use Rattle.flow_sink.proofs.Prims.{answer_at}
use Rattle.flow_sink.proofs.known.answer.Goals as goal

pub returns-in-Some : goal.returns-in-Some
returns-in-Some c = ap (λ o. chosen o c.args.p) (sym c.in-Some.is) ∙ answer_at c.args.above.now c.window.result.now c.args.p c.first.result c.window.ensures c.first.ensures

pub returns-in-None : goal.returns-in-None
returns-in-None c = ap (λ o. chosen o c.args.p) (sym c.in-None.is) ∙ answer_at c.args.above.now c.window.result.now c.args.p c.first.result c.window.ensures c.first.ensures
