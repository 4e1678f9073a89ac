use Rattle.std.proofs.Common.{◌∙◌, ◌++◌, [], ◌∷◌, ap}
use Rattle.nv_base.specs.declared.term.Atom.TheVariants.{Var}
use Rattle.nv_base.specs.declared.term.Una.TheVariants as una
use Rattle.nv_base.specs.declared.term.Primitive.TheVariants.{Una as UnaOf}
use Rattle.flat_ir.specs.declared.spine.Step.TheVariants.{Let}
use Rattle.nv_flatten_values.specs.inner.Symbols.{Word}
use Rattle.nv_flatten.proofs.FlatViews.{value-as}
use Rattle.nv_flatten.proofs.FlatValues.{invert-flat}
use Rattle.nv_flatten.proofs.made_values.inverted.Goals as goal

pub returns-clause-flat : goal.returns-clause-flat
returns-clause-flat c =
    λ w old names low scope s a later flat.
    value-as _ _ _ _ _ _ _ _ _ _ _ _ c.in-Ok.ensures.next (c.in-Ok.ensures.steps ∙ ap (λ z. c.args.operand.steps.items ++ Let c.args.next.now (UnaOf una.Not z) ∷ []) c.word_in-word.ensures) (ap (λ x. Word (Var x)) c.in-Ok.ensures.variable)
    (invert-flat _ _ _ _ _ _ s _ _ _ later flat)
