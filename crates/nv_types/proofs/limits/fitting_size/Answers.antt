use Rattle.std.proofs.Common.{refl}
use Rattle.nv_types.proofs.limits.fitting_size.Goals as goal

pub returns-then-expanded-gt-LARGEST-clause-large : goal.returns-then-expanded-gt-LARGEST-clause-large
returns-then-expanded-gt-LARGEST-clause-large c = (refl, c.if-expanded-gt-LARGEST.true)

pub returns-clause-small : goal.returns-clause-small
returns-clause-small c = c.if-expanded-gt-LARGEST.false
