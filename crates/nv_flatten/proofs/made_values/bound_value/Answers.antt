use Rattle.std.proofs.Common.{◌∙◌, ◌++◌, [], ◌∷◌, refl, ap, option_map}
use Rattle.nv_ast.specs.Types.{words}
use Rattle.flat_ir.specs.declared.spine.Step.TheVariants.{Bind}
use Rattle.nv_flatten_values.specs.inner.Code.{form_or_unit}
use Rattle.nv_flatten_values.specs.inner.Symbols.{numbers_from}
use Rattle.nv_flatten_values.specs.inner.View.{view}
use Rattle.nv_flatten.proofs.FlatViews.{value-as}
use Rattle.nv_flatten.proofs.FlatValues.{named-flat}
use Rattle.nv_flatten.proofs.made_values.bound_value.Goals as goal

pub returns-clause-flat : goal.returns-clause-flat
returns-clause-flat c =
    λ w old names low scope e named later flat.
    value-as _ _ _ _ _ _ _ _ _ _ _ _ refl (c.in-Ok-push.ensures.items ∙ ap (λ l. l ++ Bind c.renewed_form.new.made c.args.tail.code ∷ []) c.new-steps.ensures.items) refl
    (named-flat _ _ _ _ c.args.next.now _ _ _ _ (option_map view c.args.tail.form) c.renewed_form.new.made _ named later
    (c.in-Ok.ensures.made ∙ ap (λ l. l ++ numbers_from c.args.next.now (words (form_or_unit (option_map view c.args.tail.form)))) c.new-words.ensures.items) c.in-Ok.ensures.symbol c.in-Ok.ensures.next flat)
