use Rattle.std.proofs.Common.{◌≡◌, ◌++◌, nat_eq, map, drop}
use Rattle.std.specs.HashMap.{get}
use Rattle.std.specs.List.{flat_map}
use Rattle.bank_prog_rows.specs.inner.Waiting.{kept_waiting}
use Rattle.bank_prog_rows.proofs.waiting.words_of_point.Given as goal
use Rattle.place_plan.specs.inner.UseViews.{use_view}

abbrev pub invariant-loop-u : goal.invariant-loop-u
invariant-loop-u l =
    map use_view l.kept.items ++ flat_map (kept_waiting l.below (get nat_eq l.defined) l.k) (map use_view (drop l.u-index l.uses)) ≡ flat_map (kept_waiting l.below (get nat_eq l.defined) l.k) (map use_view l.uses)
