use Rattle.place_plan.proofs.Slotted.{spilled-fits}
use Rattle.place_ir_checks.proofs.laws.slots_alone_fit.Goals as goal

pub returns : goal.returns
returns c = spilled-fits
