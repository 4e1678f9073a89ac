use Rattle.std.proofs.Common.{map}
use Rattle.flow_ir.specs.View.{label_view}
use Rattle.cps_rules.specs.inner.Way.{Counted}
use Rattle.cps_rules.proofs.Flows.{done_at, flow_formed, flow_means, flow_wide, flow_bulk, flow_tidy, same_params}
use Rattle.cps_rules.proofs.Stands.{flow_simplified}
use Rattle.cps_rules.proofs.program.simplify.Goals as goal

pub invariant_of-result : goal.invariant_of-result
invariant_of-result g c = record { formed = flow_formed (Counted (g.R.Rewrite.answers c.args.r.now)) (λ p q a. g.met.R.Rewrite.sound c.args.r.now p q c.requires.ready a.0 a.1) (map label_view c.args.f.labels.items) (map label_view c.in_ok-labels.labels.items) c.args.f.formed (done_at _ _ _ _ c.in_ok-labels.ensures c.deref.ensures.value) }

pub returns-clause-params : goal.returns-clause-params
returns-clause-params g c = same_params (Counted (g.R.Rewrite.answers c.args.r.now)) (map label_view c.args.f.labels.items) (map label_view c.in_ok-labels.labels.items) (done_at _ _ _ _ c.in_ok-labels.ensures c.deref.ensures.value)

pub returns-clause-equal : goal.returns-clause-equal
returns-clause-equal g c = flow_means (Counted (g.R.Rewrite.answers c.args.r.now)) (λ p q a. g.met.R.Rewrite.sound c.args.r.now p q c.requires.ready a.0 a.1) (map label_view c.args.f.labels.items) (map label_view c.in_ok-labels.labels.items) c.args.f.formed (done_at _ _ _ _ c.in_ok-labels.ensures c.deref.ensures.value)

pub returns-clause-simplified : goal.returns-clause-simplified
returns-clause-simplified g c = flow_simplified (g.R.Rewrite.answers c.args.r.now) (map label_view c.args.f.labels.items) (map label_view c.in_ok-labels.labels.items) c.args.f.formed (done_at _ _ _ _ c.in_ok-labels.ensures c.deref.ensures.value)

pub returns-clause-tidy : goal.returns-clause-tidy
returns-clause-tidy g c = flow_tidy (Counted (g.R.Rewrite.answers c.args.r.now)) (map label_view c.args.f.labels.items) (map label_view c.in_ok-labels.labels.items) c.args.f.formed (done_at _ _ _ _ c.in_ok-labels.ensures c.deref.ensures.value)

pub returns-clause-wide : goal.returns-clause-wide
returns-clause-wide g c = flow_wide (Counted (g.R.Rewrite.answers c.args.r.now)) (λ p q a. g.met.R.Rewrite.sound c.args.r.now p q c.requires.ready a.0 a.1) (map label_view c.args.f.labels.items) (map label_view c.in_ok-labels.labels.items) (done_at _ _ _ _ c.in_ok-labels.ensures c.deref.ensures.value)

pub returns-clause-bulk : goal.returns-clause-bulk
returns-clause-bulk g c = flow_bulk (Counted (g.R.Rewrite.answers c.args.r.now)) (map label_view c.args.f.labels.items) (map label_view c.in_ok-labels.labels.items) (done_at _ _ _ _ c.in_ok-labels.ensures c.deref.ensures.value)
