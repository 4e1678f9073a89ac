use Rattle.std.proofs.Common.{◌<◌, map, ap, ◌∙◌, subst}
use Rattle.std.proofs.lemmas.List.{length-map}
use Rattle.flow_ir.specs.View.{label_view}
use Rattle.flow_merge.specs.inner.Sizes.{all_fit}
use Rattle.flow_merge.proofs.Testing.{tests}
use Rattle.flow_merge.proofs.checks.are_merged.Goals as goal

pub returns : goal.returns
returns c = tests _ (map label_view c.args.labels.now) c.in_ok-counts.ensures.most (λ k lt. c.in_ok-counts.ensures.least k (subst (λ n. k < n) (length-map c.args.labels.now label_view) lt)) _ (c.all_fit.ensures ∙ ap (λ l. all_fit l 0 (map label_view c.args.labels.now)) c.deref.ensures.value)
