use Rattle.std.proofs.Common.{◌∙◌, refl}
use Rattle.nv_flatten.proofs.FlatViews.{value-as}
use Rattle.nv_flatten.proofs.FlatValues.{unpack-flat}
use Rattle.nv_flatten.proofs.made_values.unpacked_value.Goals as goal

pub returns-clause-flat : goal.returns-clause-flat
returns-clause-flat c =
    λ old names low scope s a later flat.
    let f = c.in-Ok-unpacked.ensures in
    value-as _ _ _ _ _ _ _ _ _ _ _ _ refl c.in-Ok-add_steps.ensures refl
    (unpack-flat _ _ _ _ c.args.next.now _ _ s c.args.l.now _ _ _ _ _ c.deref.result.now (c.deref.ensures.value ∙ c.in-Ok.ensures) later f.value f.formed f.older f.well f.narrow f.small flat)
