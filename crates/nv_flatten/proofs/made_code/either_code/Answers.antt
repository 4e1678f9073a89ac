use Rattle.std.proofs.Common.{option_map}
use Rattle.nv_flatten_values.specs.inner.View.{view}
use Rattle.nv_flatten.proofs.FlatEnds.{either-flat}
use Rattle.nv_flatten.proofs.made_code.either_code.Goals as goal

pub returns : goal.returns
returns c =
    λ w old names more low mid high scope s a b extends later test right.
    either-flat _ _ _ _ _ _ _ _ s _ _ _ _ _ _ c.in-Ok.found c.args.right.code _ (option_map view c.args.right.form) extends later (record { gives = c.in-Ok.ensures.gives; literal = c.in-Ok.ensures.literal }) (record { chooses = c.in_ok-branch.ensures.chooses; nodes = c.in_ok-branch.ensures.nodes }) test right
