use Rattle.std.proofs.Common.{◌≡◌, true, [], map, All, sym, ap, subst, ◌∙◌}
use Rattle.nv_base.specs.Meanings.{AreEqual}
use Rattle.flow_ir.specs.Formed.{is_flow}
use Rattle.flow_ir.specs.Meaning.{flow_meaning, flow_params}
use Rattle.flow_ir.specs.View.{label_view}
use Rattle.flow_paths.specs.Decided.{NoneDecided}
use Rattle.flow_paths.proofs.Kept.{flow_formed, same_params, all_none_decided, labels_at}
use Rattle.flow_paths.proofs.Means.{flow_means}
use Rattle.flow_paths.proofs.program.decide_choices.Goals as goal

pub invariant_of-result : goal.invariant_of-result
invariant_of-result c = record { formed = subst (λ m. is_flow m ≡ true) (sym (labels_at _ _ _ c.in_ok-labels.ensures c.deref.ensures.value)) (flow_formed (map label_view c.args.f.now.labels.items) c.args.f.now.formed) }

pub returns-clause-params : goal.returns-clause-params
returns-clause-params c = ap flow_params (labels_at _ _ _ c.in_ok-labels.ensures c.deref.ensures.value) ∙ same_params (map label_view c.args.f.now.labels.items)

pub returns-clause-equal : goal.returns-clause-equal
returns-clause-equal c =
    subst (λ m. AreEqual (flow_params (map label_view c.args.f.now.labels.items)) (flow_meaning (map label_view c.args.f.now.labels.items)) (flow_meaning m)) (sym (labels_at _ _ _ c.in_ok-labels.ensures c.deref.ensures.value))
    (flow_means (map label_view c.args.f.now.labels.items) c.args.f.now.formed)

pub returns-clause-decided : goal.returns-clause-decided
returns-clause-decided c = subst (All (λ l. NoneDecided [] l.body)) (sym (labels_at _ _ _ c.in_ok-labels.ensures c.deref.ensures.value)) (all_none_decided (map label_view c.args.f.now.labels.items))
