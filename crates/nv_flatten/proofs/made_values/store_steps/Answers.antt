use Rattle.std.proofs.Common.{◌∙◌, ◌++◌, [], ◌∷◌, ap}
use Rattle.flat_ir.specs.declared.spine.Step.TheVariants.{Store}
use Rattle.nv_flatten.proofs.FlatLists.{store-flat}
use Rattle.nv_flatten.proofs.made_values.store_steps.Goals as goal

pub returns : goal.returns
returns c =
    λ w old names more low mid high scope s a e extends later more_later first second.
    store-flat _ _ _ _ _ _ _ _ s c.args.m _ _ _ _ _ _ _ c.in-Ok-short.found
    (c.in-Ok-push.ensures.items ∙ ap (λ l. l ++ Store c.args.m c.word_in-place.result c.in-Ok-short.found ∷ []) c.in-Ok.ensures
    ∙ ap (λ z. (c.args.address.steps.items ++ c.args.stored.steps.items) ++ Store c.args.m z c.in-Ok-short.found ∷ []) c.word_in-place.ensures)
    (c.in-Ok-short.ensures ∙ c.deref.ensures.value ∙ c.in-Ok-operands_in.ensures) extends later more_later first second
