use Rattle.nv_flatten.proofs.FlatEnds.{given-flat}
use Rattle.nv_flatten.proofs.made_code.given_code.Goals as goal

pub returns : goal.returns
returns c = λ w old names low high scope e given flat. given-flat _ _ _ _ _ _ _ _ _ c.in-Ok.found _ given c.in-Ok.ensures c.in-Ok-join.ensures flat
