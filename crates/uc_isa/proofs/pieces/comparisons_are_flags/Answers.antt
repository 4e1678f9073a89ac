use Rattle.uc_isa.proofs.Comparisons.{failing-holds}
use Rattle.uc_isa.proofs.pieces.comparisons_are_flags.Goals as goal

pub returns : goal.returns
returns c = λ cmp x y e a b. failing-holds cmp x y e a b
