use Rattle.std.proofs.Common.{map}
use Rattle.flow_ir.specs.View.{label_view}
use Rattle.flow_sink.proofs.Likeness.{flow_formed, same_params, flow_means}
use Rattle.flow_sink.proofs.OrderWhole.{all_like, ordered_call}
use Rattle.flow_sink.proofs.order_program.order_lets.Goals as goal

pub invariant_of-result : goal.invariant_of-result
invariant_of-result c = record { formed = flow_formed (map label_view c.args.f.labels.items) (map label_view c.in_ok-labels.labels.items) (all_like _ _ c.in_ok-labels.ensures c.args.f.formed) c.args.f.formed }

pub returns-clause-params : goal.returns-clause-params
returns-clause-params c = same_params (map label_view c.args.f.labels.items) (map label_view c.args.f.labels.items) (map label_view c.in_ok-labels.labels.items) (all_like _ _ c.in_ok-labels.ensures c.args.f.formed)

pub returns-clause-equal : goal.returns-clause-equal
returns-clause-equal c = flow_means (map label_view c.args.f.labels.items) (map label_view c.in_ok-labels.labels.items) (all_like _ _ c.in_ok-labels.ensures c.args.f.formed)

pub returns-clause-ordered : goal.returns-clause-ordered
returns-clause-ordered c = ordered_call (map label_view c.args.f.labels.items) (map label_view c.in_ok-labels.labels.items) c.in_ok-labels.ensures
