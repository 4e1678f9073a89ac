use Rattle.std.proofs.Common.{map}
use Rattle.flow_ir.specs.View.{label_view}
use Rattle.flow_words.specs.Bits.{IsNeeded}
use Rattle.flow_words.proofs.Whole.{reduced_at, same_params, flow_formed, flow_means, all_defined}
use Rattle.flow_words.proofs.program.slice_words.Goals as goal

pub invariant_of-result : goal.invariant_of-result
invariant_of-result c = record { formed = flow_formed IsNeeded (map label_view c.args.f.now.labels.items) (map label_view c.in_ok-labels.labels.items) c.args.f.now.formed (reduced_at IsNeeded _ _ _ c.in_ok-labels.ensures c.deref.ensures.value) }

pub returns-clause-params : goal.returns-clause-params
returns-clause-params c = same_params IsNeeded (map label_view c.args.f.now.labels.items) (map label_view c.in_ok-labels.labels.items) (reduced_at IsNeeded _ _ _ c.in_ok-labels.ensures c.deref.ensures.value)

pub returns-clause-equal : goal.returns-clause-equal
returns-clause-equal c = flow_means IsNeeded (map label_view c.args.f.now.labels.items) (map label_view c.in_ok-labels.labels.items) (reduced_at IsNeeded _ _ _ c.in_ok-labels.ensures c.deref.ensures.value)

pub returns-clause-needed : goal.returns-clause-needed
returns-clause-needed c = all_defined IsNeeded (map label_view c.args.f.now.labels.items) (map label_view c.in_ok-labels.labels.items) (reduced_at IsNeeded _ _ _ c.in_ok-labels.ensures c.deref.ensures.value)
