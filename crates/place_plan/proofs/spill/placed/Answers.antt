use Rattle.std.proofs.Common.{List, map, sym, subst}
use Rattle.std.specs.Prelude.{All}
use Rattle.ssu_ir.specs.Points.{PointKind}
use Rattle.ssu_ir.specs.View.{labels_view}
use Rattle.place_plan.specs.declared.parts.SpillInputs.{SpillInputs}
use Rattle.place_plan.specs.inner.Parts.{IsShort}
use Rattle.ssu_liveness.specs.inner.PointIds.{kind_of_point}
use Rattle.place_plan.proofs.InSlots.{placed-in-slots, served-from-slots}
use Rattle.place_plan.proofs.Joined.{placed-fits}
use Rattle.place_plan.proofs.Short.{short-at-points}
use Rattle.place_plan.proofs.spill.placed.Goals as goal

pub spill_points-requires : goal.spill_points-requires
spill_points-requires c =
    subst (λ (qs : List PointKind). All IsShort qs) (sym c.requires.point_ids) (short-at-points (labels_view c.args.s.now) c.args.slots c.requires.single c.requires.enough c.requires.slots)

pub returns-clause-fits : goal.returns-clause-fits
returns-clause-fits c =
    let s = c.args.s.now in
    let given : SpillInputs = record { slots = c.args.numbers; copies = c.args.copies; used = c.in_ok-used.used } in
    placed-fits s given (map (kind_of_point s) c.args.point_ids.now) c.in_ok-parts.parts c.by_variable-homes.result.items c.args.slots c.requires.single c.requires.slots c.requires.numbered c.requires.copies
    c.in_ok-used.ensures c.requires.point_ids c.in_ok-parts.ensures c.by_variable-homes.ensures.same c.by_variable-homes.ensures.sorted

pub returns-clause-in_slots : goal.returns-clause-in_slots
returns-clause-in_slots c =
    let s = c.args.s.now in
    let given : SpillInputs = record { slots = c.args.numbers; copies = c.args.copies; used = c.in_ok-used.used } in
    let places = map (kind_of_point s) c.args.point_ids.now in
    record {
      homes = placed-in-slots (labels_view s) given places c.in_ok-parts.parts c.by_variable-homes.result.items c.in_ok-parts.ensures c.by_variable-homes.ensures.same;
      serves = served-from-slots (labels_view s) given places c.in_ok-parts.parts c.in_ok-parts.ensures;
    }
