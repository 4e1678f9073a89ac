use Rattle.std.proofs.Common.{◌∙◌, ◌++◌, [], ◌∷◌, ap}
use Rattle.nv_base.specs.declared.term.Atom.TheVariants.{Var, Lit}
use Rattle.nv_base.specs.declared.term.Bin.TheVariants as bin
use Rattle.nv_base.specs.declared.term.Primitive.TheVariants.{Bin as BinOf}
use Rattle.flat_ir.specs.declared.spine.Step.TheVariants.{Let}
use Rattle.nv_flatten_values.specs.inner.Symbols.{Truth}
use Rattle.nv_flatten.proofs.FlatViews.{value-as}
use Rattle.nv_flatten.proofs.FlatValues.{negate-flat}
use Rattle.nv_flatten.proofs.made_values.negated.Goals as goal

pub returns-clause-flat : goal.returns-clause-flat
returns-clause-flat c =
    λ w old names low scope s a later flat.
    value-as _ _ _ _ _ _ _ _ _ _ _ _ c.in-Ok.ensures.next (c.in-Ok.ensures.steps ∙ ap (λ z. c.args.operand.steps.items ++ Let c.args.next.now (BinOf bin.Xor z (Lit 1)) ∷ []) c.truth_in-truth.ensures) (ap (λ x. Truth (Var x)) c.in-Ok.ensures.variable)
    (negate-flat _ _ _ _ _ _ s _ _ _ later flat)
