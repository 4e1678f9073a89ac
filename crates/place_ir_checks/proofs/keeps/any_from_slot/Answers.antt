use Rattle.std.proofs.Common.{◌∙◌, sym, ap}
use Rattle.place_plan.specs.Fits.{is_slot}
use Rattle.place_plan.specs.Plan.{plan_view, serve}
use Rattle.place_ir_checks.proofs.Seen.{below-from}
use Rattle.place_ir_checks.proofs.keeps.any_from_slot.Goals as goal

pub returns-then-is_slot : goal.returns-then-is_slot
returns-then-is_slot c =
    sym (below-from (λ i. is_slot (serve (plan_view c.args.p.now) c.args.k i).from) c.args.count c.loop-i.i c.loop-i-test.true (ap is_slot (sym c.serve_of.ensures.from) ∙ sym c.is_slot.ensures ∙ c.if-is_slot.true))
