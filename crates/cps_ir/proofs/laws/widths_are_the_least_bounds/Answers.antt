use Rattle.std.proofs.Common.{suc}
use Rattle.cps_ir.proofs.Widths.{bounded, main-bounded, groups-are-widths}
use Rattle.cps_ir.proofs.laws.widths_are_the_least_bounds.Goals as goal

pub returns-clause-bounds : goal.returns-clause-bounds
returns-clause-bounds c = groups-are-widths

pub returns-clause-least : goal.returns-clause-least
returns-clause-least c = λ funs w h group. bounded funs w h (suc group) group

pub returns-clause-main : goal.returns-clause-main
returns-clause-main c = main-bounded
