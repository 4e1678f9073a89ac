use Rattle.std.proofs.Common.{map}
use Rattle.flow_ir.specs.View.{label_view}
use Rattle.flow_ir.proofs.Leading.{pruned-led}
use Rattle.flow_ir.proofs.Left.{pruned-at, pruned-formed, pruned-params, pruned-means, pruned-wide, pruned-bulk}
use Rattle.flow_ir.proofs.prune.drop_unreached.Goals as goal

pub invariant_of-result : goal.invariant_of-result
invariant_of-result c = record { formed = pruned-formed (map label_view c.args.f.now.labels.items) (map label_view c.in_ok-labels.labels.items) c.args.f.now.formed (pruned-at _ _ _ c.in_ok-labels.ensures c.deref.ensures.value) }

pub returns-clause-params : goal.returns-clause-params
returns-clause-params c = pruned-params (map label_view c.args.f.now.labels.items) (map label_view c.in_ok-labels.labels.items) c.args.f.now.formed (pruned-at _ _ _ c.in_ok-labels.ensures c.deref.ensures.value)

pub returns-clause-equal : goal.returns-clause-equal
returns-clause-equal c = λ args p a s n. pruned-means (map label_view c.args.f.now.labels.items) (map label_view c.in_ok-labels.labels.items) c.args.f.now.formed (pruned-at _ _ _ c.in_ok-labels.ensures c.deref.ensures.value) args p n

pub returns-clause-wide : goal.returns-clause-wide
returns-clause-wide c = pruned-wide (map label_view c.args.f.now.labels.items) (map label_view c.in_ok-labels.labels.items) (pruned-at _ _ _ c.in_ok-labels.ensures c.deref.ensures.value)

pub returns-clause-led : goal.returns-clause-led
returns-clause-led c = pruned-led (map label_view c.args.f.now.labels.items) (map label_view c.in_ok-labels.labels.items) (pruned-at _ _ _ c.in_ok-labels.ensures c.deref.ensures.value)

pub returns-clause-bulk : goal.returns-clause-bulk
returns-clause-bulk c = pruned-bulk (map label_view c.args.f.now.labels.items) (map label_view c.in_ok-labels.labels.items) (pruned-at _ _ _ c.in_ok-labels.ensures c.deref.ensures.value)
