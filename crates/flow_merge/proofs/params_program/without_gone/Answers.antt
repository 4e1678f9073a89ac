use Rattle.std.proofs.Common.{map}
use Rattle.flow_ir.specs.View.{label_view}
use Rattle.flow_merge.specs.inner.Pruned.{gone_of}
use Rattle.flow_merge.proofs.ParamsWhole.{pruned_at, same_params, flow_formed, flow_same, flow_wide, flow_bulk, most_same}
use Rattle.flow_merge.proofs.Contracted.{still_contracted, still_led}
use Rattle.flow_merge.proofs.params_program.without_gone.Goals as goal

pub invariant_of-result : goal.invariant_of-result
invariant_of-result c = record { formed = flow_formed (map label_view c.args.f.now.labels.items) (map label_view c.in_ok-labels.labels.items) (gone_of c.args.table.now) (c.keeps_first.ensures.0 c.if-not-keeps_first.false) (pruned_at _ _ _ _ c.in_ok-labels.ensures c.deref.ensures.value) c.args.f.now.formed }

pub returns-clause-params : goal.returns-clause-params
returns-clause-params c = same_params (map label_view c.args.f.now.labels.items) (gone_of c.args.table.now) 0 (map label_view c.args.f.now.labels.items) (map label_view c.in_ok-labels.labels.items) (c.keeps_first.ensures.0 c.if-not-keeps_first.false) (pruned_at _ _ _ _ c.in_ok-labels.ensures c.deref.ensures.value)

pub returns-clause-equal : goal.returns-clause-equal
returns-clause-equal c = flow_same (map label_view c.args.f.now.labels.items) (map label_view c.in_ok-labels.labels.items) (gone_of c.args.table.now) (c.keeps_first.ensures.0 c.if-not-keeps_first.false) (pruned_at _ _ _ _ c.in_ok-labels.ensures c.deref.ensures.value)

pub returns-clause-wide : goal.returns-clause-wide
returns-clause-wide c = flow_wide (map label_view c.args.f.now.labels.items) (gone_of c.args.table.now) 0 (map label_view c.args.f.now.labels.items) (map label_view c.in_ok-labels.labels.items) (pruned_at _ _ _ _ c.in_ok-labels.ensures c.deref.ensures.value)

pub returns-clause-bulk : goal.returns-clause-bulk
returns-clause-bulk c = most_same (map label_view c.args.f.now.labels.items) (map label_view c.in_ok-labels.labels.items) (flow_bulk (map label_view c.args.f.now.labels.items) (gone_of c.args.table.now) 0 (map label_view c.args.f.now.labels.items) (map label_view c.in_ok-labels.labels.items) (pruned_at _ _ _ _ c.in_ok-labels.ensures c.deref.ensures.value))

pub returns-clause-contracted : goal.returns-clause-contracted
returns-clause-contracted c = still_contracted (map label_view c.args.f.now.labels.items) (map label_view c.in_ok-labels.labels.items) (gone_of c.args.table.now) (pruned_at _ _ _ _ c.in_ok-labels.ensures c.deref.ensures.value)

pub returns-clause-led : goal.returns-clause-led
returns-clause-led c = still_led (map label_view c.args.f.now.labels.items) (map label_view c.in_ok-labels.labels.items) (gone_of c.args.table.now) (pruned_at _ _ _ _ c.in_ok-labels.ensures c.deref.ensures.value)
