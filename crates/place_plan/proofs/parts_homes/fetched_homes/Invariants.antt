use Rattle.std.proofs.Common.{◌≡◌, ◌++◌, map, drop}
use Rattle.place_plan.specs.Plan.{home_view}
use Rattle.place_plan.specs.inner.Parts.{number_of, used_of, fetched_homes}
use Rattle.place_plan.proofs.parts_homes.fetched_homes.Given as goal

abbrev pub invariant-loop-i : goal.invariant-loop-i
invariant-loop-i l =
    map home_view l.homes.items ++ fetched_homes (number_of l.given) (used_of l.given) l.m l.i (drop l.i l.xs)
    ≡ map home_view l.fn.homes.items ++ fetched_homes (number_of l.given) (used_of l.given) l.m 0 l.xs
