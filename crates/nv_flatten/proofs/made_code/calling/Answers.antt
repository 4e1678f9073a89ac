use Rattle.std.proofs.Common.{◌∙◌, ap}
use Rattle.nv_flatten_values.specs.inner.Symbols.{all_operands}
use Rattle.nv_flatten_values.specs.inner.View.{list_symbols}
use Rattle.nv_flatten.proofs.EndArms.{form-view}
use Rattle.nv_flatten.proofs.FlatEnds.{call-flat}
use Rattle.nv_flatten.proofs.made_code.calling.Goals as goal

pub returns-clause-flat : goal.returns-clause-flat
returns-clause-flat c =
    λ old low high scope s es flat.
    call-flat _ _ _ _ _ _ _ s c.args.f.now _ _ _ c.in-Ok-number.found c.in-Ok.found _ _ c.in-Ok-number.ensures.number c.in-Ok-number.ensures.called c.number.ensures.extends (c.in-Ok.ensures ∙ ap (λ l. all_operands (list_symbols l)) c.deref.ensures.value) c.in_ok-code.ensures
    (form-view c.in-Ok-result_form.found ∙ c.in-Ok-result_form.ensures) flat
