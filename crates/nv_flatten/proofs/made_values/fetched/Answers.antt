use Rattle.std.proofs.Common.{◌∙◌, ◌++◌, [], ◌∷◌, refl, ap}
use Rattle.flat_ir.specs.declared.spine.Step.TheVariants.{Fetch}
use Rattle.nv_flatten_values.specs.inner.Code.{variables}
use Rattle.nv_flatten_values.specs.inner.Symbols.{words_symbol, numbers_from}
use Rattle.nv_flatten.proofs.FlatViews.{value-as}
use Rattle.nv_flatten.proofs.FlatValues.{fetch-flat}
use Rattle.nv_flatten.proofs.made_values.fetched.Goals as goal

pub returns-clause-flat : goal.returns-clause-flat
returns-clause-flat c =
    λ w old names low scope s a later flat.
    value-as _ _ _ _ _ _ _ _ _ _ _ _ c.in-Ok.ensures.next refl
    (c.in-Ok-symbol_of_words.ensures ∙ ap words_symbol (c.deref.ensures.value ∙ c.in-Ok.ensures.words ∙ ap (λ l. l ++ variables (numbers_from c.args.next.now c.args.n)) c.new-words.ensures.items))
    (fetch-flat _ _ _ _ _ _ s c.args.m c.args.n _ _ _ _ c.in-Ok.found
    (c.in-Ok-push.ensures.items ∙ ap (λ z. c.args.address.steps.items ++ Fetch c.args.m c.in-Ok.found z ∷ []) c.word_in-place.ensures) c.in-Ok.ensures.variables later flat)
