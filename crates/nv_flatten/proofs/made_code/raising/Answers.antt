use Rattle.std.proofs.Common.{◌∙◌, ap}
use Rattle.nv_flatten_values.specs.inner.Symbols.{all_operands}
use Rattle.nv_flatten_values.specs.inner.View.{list_symbols}
use Rattle.nv_flatten.proofs.FlatEnds.{raise-flat}
use Rattle.nv_flatten.proofs.made_code.raising.Goals as goal

pub returns : goal.returns
returns c =
    λ old names low high scope s es flat.
    raise-flat _ _ _ _ _ _ s c.args.x.now _ _ _ c.exception.result c.in-Ok-short.found _ c.in_ok-join.ensures c.exception.ensures
    (c.in-Ok-short.ensures ∙ c.deref-2.ensures.value ∙ c.in-Ok.ensures ∙ ap (λ l. all_operands (list_symbols l)) c.deref.ensures.value) flat
