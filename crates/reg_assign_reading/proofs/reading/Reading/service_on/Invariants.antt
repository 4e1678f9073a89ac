use Rattle.std.proofs.Common.{◌≡◌, drop}
use Rattle.reg_assign_reading.specs.ReadOff.{service_on}
use Rattle.reg_assign_reading.specs.inner.Reading.{says}
use Rattle.reg_assign_reading.proofs.reading.Reading.service_on.Given as goal
use Rattle.place_plan.specs.inner.UseViews.{use_view}

abbrev pub invariant-loop-s : goal.invariant-loop-s
invariant-loop-s l = service_on (says l.self) (use_view l.u) (drop l.s-index l.services) ≡ service_on (says l.self) (use_view l.u) l.services
