use Rattle.std.proofs.Common.{refl}
use Rattle.place_weights.specs.inner.Fault.{cut}
use Rattle.place_weights.proofs.Lines.{no_line_other}
use Rattle.place_weights.proofs.read.read_first.Goals as goal

pub returns-in_default-clause-err : goal.returns-in_default-clause-err
returns-in_default-clause-err c = (refl, cut c.in_default.ensures.none)

pub returns-in-None-clause-err : goal.returns-in-None-clause-err
returns-in-None-clause-err c = (refl, no_line_other _ _ _ _ c.in-Some.ensures.line c.in-Some.ensures.one c.in-None.ensures.none)
