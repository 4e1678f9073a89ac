use Rattle.nv_flatten.proofs.FlatEnds.{decided-flat}
use Rattle.nv_flatten.proofs.made_code.decided_code.Goals as goal

pub returns : goal.returns
returns c =
    λ w old names low high scope e comparison flat.
    decided-flat _ _ _ _ _ _ _ _ _ _ _ c.in-Ok.found c.in-Ok-give_truth.found _ comparison (record { gives = c.in-Ok.ensures.gives; literal = c.in-Ok.ensures.literal }) (record { gives = c.in-Ok-give_truth.ensures.gives; literal = c.in-Ok-give_truth.ensures.literal }) (record { chooses = c.in_ok-branch.ensures.chooses; nodes = c.in_ok-branch.ensures.nodes }) flat
