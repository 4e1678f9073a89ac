use Rattle.std.proofs.Common.{◌∙◌}
use Rattle.flow_ir.specs.View.{label_view}
use Rattle.flow_words.proofs.Going.{label_done}
use Rattle.flow_words.proofs.program.label_reduced.Goals as goal

pub returns-then-state : goal.returns-then-state
returns-then-state c =
    label_done (label_view c.args.l.now) (label_view (record { params = c.in_ok-params.params; body = c.in_ok-body.body })) c.start-state.result c.enter_all.new.state c.reduced.new.state _ _ _ c.start-state.ensures.fresh c.start-state.ensures.table c.in_ok-enter_all.ensures c.deref.ensures.value
    c.in_ok-body.ensures c.if-state.true (c.in_ok-params.ensures ∙ c.deref-2.ensures.value)
