use Rattle.std.proofs.Common.{[], ◌∷◌, ◌++◌, ap, ◌∙◌}
use Rattle.flat_ir.specs.Formed.{defined}
use Rattle.cps_ir.specs.View.{term_view}
use Rattle.cps_lower.specs.inner.Lowered.{next_variable, variables}
use Rattle.cps_lower.proofs.Handing.{first_behind, handing_view}
use Rattle.cps_lower.proofs.function.handing_on.Goals as goal

pub returns : goal.returns
returns c =
    handing_view c.push.new.self c.in_ok-new.field-0 c.in_ok-label.label _ _ _ (c.in_ok-push.ensures.items ∙ ap (λ l. l ++ c.in_ok-label.label ∷ []) c.new-conts.ensures.items)
    c.in_ok-label.ensures.0 c.in_ok-label.ensures.1 c.in_ok-label.ensures.2
    (ap (λ n. variables n c.args.f.now.results) (first_behind c.args.f.now.params.items (defined c.args.f.now.body) c.in_ok-variable_above.field-0 c.in_ok-first.first (c.in_ok-variable_above.ensures ∙ ap next_variable c.deref.ensures.value) c.in_ok-first.ensures))
    (ap term_view c.in_ok-new.ensures.ok ∙ c.in_ok-code.ensures.term)
