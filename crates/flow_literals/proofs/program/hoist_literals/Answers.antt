use Rattle.std.proofs.Common.{map}
use Rattle.flow_ir.specs.View.{label_view}
use Rattle.flow_literals.specs.inner.Hoisted.{heads_of}
use Rattle.flow_literals.proofs.Whole.{hoisted_at, rows_at, first_row, flow_formed, flow_same, flow_params_same, flow_held}
use Rattle.flow_literals.proofs.program.hoist_literals.Goals as goal

pub invariant_of-result : goal.invariant_of-result
invariant_of-result c =
    record {
      formed = flow_formed (map label_view c.args.f.now.labels.items) (map label_view c.in_ok-labels.labels.items) c.args.f.now.formed (heads_of c.in_ok-table.table.items) (first_row _ _ _ _ c.in_ok-table.ensures) (hoisted_at _ _ _ _ _ c.in_ok-labels.ensures c.deref-2.ensures.value c.deref-3.ensures.value);
    }

pub returns-clause-params : goal.returns-clause-params
returns-clause-params c =
    flow_params_same (map label_view c.args.f.now.labels.items) (map label_view c.in_ok-labels.labels.items) c.args.f.now.formed (heads_of c.in_ok-table.table.items) (first_row _ _ _ _ c.in_ok-table.ensures) (hoisted_at _ _ _ _ _ c.in_ok-labels.ensures c.deref-2.ensures.value c.deref-3.ensures.value)

pub returns-clause-equal : goal.returns-clause-equal
returns-clause-equal c =
    flow_same (map label_view c.args.f.now.labels.items) (map label_view c.in_ok-labels.labels.items) c.args.f.now.formed (heads_of c.in_ok-table.table.items) (first_row _ _ _ _ c.in_ok-table.ensures) (hoisted_at _ _ _ _ _ c.in_ok-labels.ensures c.deref-2.ensures.value c.deref-3.ensures.value)

pub returns-clause-held : goal.returns-clause-held
returns-clause-held c =
    flow_held _ _ (map label_view c.args.f.now.labels.items) (map label_view c.in_ok-labels.labels.items) c.in_ok-table.table.items (hoisted_at _ _ _ _ _ c.in_ok-labels.ensures c.deref-2.ensures.value c.deref-3.ensures.value) (rows_at _ _ _ _ _ c.in_ok-table.ensures c.deref.ensures.value)
