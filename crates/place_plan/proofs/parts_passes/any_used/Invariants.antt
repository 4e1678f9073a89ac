use Rattle.std.proofs.Common.{◌≡◌, nat_eq, drop}
use Rattle.std.specs.HashSet.{contains}
use Rattle.std.specs.List.{list_any}
use Rattle.place_plan.proofs.parts_passes.any_used.Given as goal

abbrev pub invariant-loop-x : goal.invariant-loop-x
invariant-loop-x l = list_any (contains nat_eq l.used) (drop l.x-index l.xs) ≡ list_any (contains nat_eq l.used) l.xs
