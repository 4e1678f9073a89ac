use Rattle.std.proofs.Common.{◌∙◌}
use Rattle.cps_rules.proofs.Flows.{label_scoped, label_done}
use Rattle.flow_ir.specs.View.{label_view}
use Rattle.flow_ir.proofs.Renaming.{named_at}
use Rattle.cps_rules.proofs.program.simplify_label.Goals as goal

pub simplify_tree-requires-clause-scoped : goal.simplify_tree-requires-clause-scoped
simplify_tree-requires-clause-scoped g c = label_scoped (label_view c.args.l.now) c.requires.formed (named_at c.in_ok-name_all.ensures c.deref.ensures.value) c.in_ok-clear.ensures

pub returns : goal.returns
returns g c =
    label_done (label_view c.args.l.now) (label_view record { params = c.in_ok-params.params; body = c.in_ok-body.body }) c.requires.formed (named_at c.in_ok-name_all.ensures c.deref.ensures.value) c.in_ok-body.ensures
    (c.in_ok-params.ensures ∙ c.deref-2.ensures.value)
