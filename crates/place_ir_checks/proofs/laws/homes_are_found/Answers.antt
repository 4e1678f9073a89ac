use Rattle.place_plan.proofs.Homes.{homes-are-spilled}
use Rattle.place_ir_checks.proofs.laws.homes_are_found.Goals as goal

pub returns : goal.returns
returns c = homes-are-spilled
