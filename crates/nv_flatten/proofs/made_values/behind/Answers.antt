use Rattle.std.proofs.Common.{refl}
use Rattle.nv_flatten.proofs.made_values.behind.Goals as goal

pub returns : goal.returns
returns c = (c.in-Ok.ensures, refl)
