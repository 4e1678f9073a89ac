use Rattle.std.proofs.Common.{suc}
use Rattle.cps_ir.proofs.Bulks.{bounded, main-bounded, groups-are-bulks}
use Rattle.cps_ir.proofs.laws.bulks_are_the_least_bounds.Goals as goal

pub returns-clause-bounds : goal.returns-clause-bounds
returns-clause-bounds c = groups-are-bulks

pub returns-clause-least : goal.returns-clause-least
returns-clause-least c = λ funs w h group. bounded funs w h (suc group) group

pub returns-clause-main : goal.returns-clause-main
returns-clause-main c = main-bounded
