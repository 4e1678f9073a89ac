use Rattle.ssu_liveness.proofs.RowSteps.{takes-one}
use Rattle.ssu_liveness.proofs.rows.take_row.Goals as goal

pub returns-in-Some : goal.returns-in-Some
returns-in-Some c = takes-one c.args.rows.now.items c.pop.new.self.items c.in-Some.row c.in-Some.ensures.items
