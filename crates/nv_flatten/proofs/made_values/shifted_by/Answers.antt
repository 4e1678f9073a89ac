use Rattle.std.proofs.Common.{◌∙◌, ◌++◌, [], ◌∷◌, ap}
use Rattle.flat_ir.specs.declared.spine.Step.TheVariants.{Let}
use Rattle.nv_flatten_values.specs.inner.Code.{shift_of}
use Rattle.nv_flatten.proofs.FlatValues.{shift-flat}
use Rattle.nv_flatten.proofs.made_values.shifted_by.Goals as goal

pub returns-clause-flat : goal.returns-clause-flat
returns-clause-flat c =
    λ w old names low scope s a later flat.
    let e = c.word_in-word.ensures in
    shift-flat _ _ _ _ c.args.next.now _ _ s c.args.op _ c.args.n _ _ _ _ later c.in-Ok.ensures.extends
    (λ z. let h = c.in-Ok.ensures.none z in (h.0 ∙ e, h.1.0, h.1.1))
    (λ z. let h = c.in-Ok.ensures.past z in (h.0 ∙ e, h.1.0, h.1.1))
    (λ one most. let h = c.in-Ok.ensures.some one most in (h.0, h.1.0 ∙ ap (λ z. c.args.operand.steps.items ++ Let c.args.next.now (shift_of c.args.op c.args.n z) ∷ []) e, h.1.1))
    flat
