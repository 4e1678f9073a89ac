use Rattle.std.proofs.Common.{sym, ◌∙◌, arith}
use Rattle.reg_assign_reading.specs.ReadOff.{service_on}
use Rattle.reg_assign_reading.specs.inner.Reading.{says}
use Rattle.reg_assign_reading.proofs.Readings.{service-more, service-here, service-none}
use Rattle.reg_assign_reading.proofs.reading.Reading.service_on.Goals as goal
use Rattle.place_plan.specs.inner.UseViews.{use_view}

pub loop-s-preserved : goal.loop-s-preserved
loop-s-preserved c =
    service-more (says c.args.self.now) (use_view c.args.u) c.args.services.now c.loop-s.s-index _ (service_on (says c.args.self.now) (use_view c.args.u) c.args.services.now) (omega arith) (sym c.is_on.ensures ∙ c.if-is_on.false) c.loop-s.invariant

pub returns-then-is_on : goal.returns-then-is_on
returns-then-is_on c =
    service-here (says c.args.self.now) (use_view c.args.u) c.args.services.now c.loop-s.s-index _ (service_on (says c.args.self.now) (use_view c.args.u) c.args.services.now) (omega arith) (sym c.is_on.ensures ∙ c.if-is_on.true) c.loop-s.invariant

pub returns : goal.returns
returns c = service-none (says c.args.self.now) (use_view c.args.u) c.args.services.now c.loop-s.s-index (service_on (says c.args.self.now) (use_view c.args.u) c.args.services.now) (omega arith) c.loop-s.invariant
