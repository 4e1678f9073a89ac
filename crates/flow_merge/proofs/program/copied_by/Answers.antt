use Rattle.std.proofs.Common.{map, refl}
use Rattle.flow_ir.specs.View.{label_view}
use Rattle.flow_merge.specs.inner.Numbered.{numbering}
use Rattle.flow_merge.proofs.Whole.{copied_at, copied_formed, copied_kept, copied_narrow}
use Rattle.flow_merge.proofs.program.copied_by.Goals as goal

pub invariant_of-result : goal.invariant_of-result
invariant_of-result c = record { formed = copied_formed (map label_view c.args.f.now.labels.items) (numbering c.args.plan.now) c.args.f.now.formed (map label_view c.in_ok-labels.labels.items) (copied_at _ _ _ _ c.in_ok-labels.ensures c.deref.ensures.value) refl }

pub returns-clause-kept : goal.returns-clause-kept
returns-clause-kept c = copied_kept (map label_view c.args.f.now.labels.items) (numbering c.args.plan.now) c.args.f.now.formed (map label_view c.in_ok-labels.labels.items) (copied_at _ _ _ _ c.in_ok-labels.ensures c.deref.ensures.value) refl

pub returns-clause-wide : goal.returns-clause-wide
returns-clause-wide c = copied_narrow (map label_view c.args.f.now.labels.items) (numbering c.args.plan.now) c.args.f.now.formed (map label_view c.in_ok-labels.labels.items) (copied_at _ _ _ _ c.in_ok-labels.ensures c.deref.ensures.value) refl
