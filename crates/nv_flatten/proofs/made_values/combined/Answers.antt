use Rattle.std.proofs.Common.{◌∙◌, ◌++◌, [], ◌∷◌, ap}
use Rattle.nv_base.specs.declared.term.Atom.TheVariants.{Var}
use Rattle.nv_base.specs.declared.term.Primitive.TheVariants.{Bin as BinOf}
use Rattle.flat_ir.specs.declared.spine.Step.TheVariants.{Let}
use Rattle.nv_flatten_values.specs.inner.Symbols.{Word, word_operand}
use Rattle.nv_flatten_values.specs.inner.View.{view}
use Rattle.nv_flatten.proofs.FlatViews.{value-as}
use Rattle.nv_flatten.proofs.FlatValues.{combine-flat}
use Rattle.nv_flatten.proofs.made_values.combined.Goals as goal

pub returns-clause-flat : goal.returns-clause-flat
returns-clause-flat c =
    λ w old names more low mid scope s op a b is extends later more_later first second.
    value-as _ _ _ _ _ _ _ _ _ _ _ _ c.in-Ok.ensures.next
    (c.in-Ok.ensures.steps ∙ ap (λ l. l ++ Let c.args.next.now (BinOf c.args.bin c.in_ok-both.both.left c.in_ok-both.both.right) ∷ []) c.in_ok-both.ensures.steps
    ∙ ap (λ z. (c.args.left.steps.items ++ c.args.right.steps.items) ++ Let c.args.next.now (BinOf c.args.bin z c.in_ok-both.both.right) ∷ []) c.in_ok-both.ensures.left
    ∙ ap (λ z. (c.args.left.steps.items ++ c.args.right.steps.items) ++ Let c.args.next.now (BinOf c.args.bin (word_operand (view c.args.left.symbol)) z) ∷ []) c.in_ok-both.ensures.right)
    (ap (λ x. Word (Var x)) c.in-Ok.ensures.variable)
    (combine-flat _ _ _ _ _ _ _ _ s op c.args.bin _ _ _ _ _ _ is extends later more_later first second)
