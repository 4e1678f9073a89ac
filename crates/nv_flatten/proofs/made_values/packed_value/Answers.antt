use Rattle.std.proofs.Common.{refl}
use Rattle.nv_flatten.proofs.FlatViews.{value-as}
use Rattle.nv_flatten.proofs.FlatValues.{pack-flat}
use Rattle.nv_flatten.proofs.made_values.packed_value.Goals as goal

pub returns-clause-flat : goal.returns-clause-flat
returns-clause-flat c =
    λ old names low scope s a later flat.
    let p = c.in-Ok.ensures in
    value-as _ _ _ _ _ _ _ _ _ _ _ _ refl c.in-Ok-add_steps.ensures refl
    (pack-flat _ _ _ _ c.args.next.now _ _ s c.args.l.now _ _ _ _ _ later p.value p.formed p.older p.well p.narrow p.small flat)
