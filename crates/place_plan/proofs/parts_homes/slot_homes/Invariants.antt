use Rattle.std.proofs.Common.{◌≡◌, ◌++◌, map, drop}
use Rattle.place_plan.specs.Plan.{home_view}
use Rattle.place_plan.specs.inner.Parts.{number_of, slot_home}
use Rattle.place_plan.proofs.parts_homes.slot_homes.Given as goal

abbrev pub invariant-loop-x : goal.invariant-loop-x
invariant-loop-x l =
    map home_view l.homes.items ++ map (slot_home (number_of l.given)) (drop l.x-index l.xs)
    ≡ map home_view l.fn.homes.items ++ map (slot_home (number_of l.given)) l.xs
