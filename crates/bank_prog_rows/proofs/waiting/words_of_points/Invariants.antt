use Rattle.std.proofs.Common.{◌≡◌, ◌++◌, nat_eq, map, drop}
use Rattle.std.specs.HashMap.{get}
use Rattle.bank_prog_rows.specs.inner.Waiting.{each_waiting, lists_of}
use Rattle.bank_prog_rows.proofs.waiting.words_of_points.Given as goal
use Rattle.place_plan.specs.inner.UseViews.{use_view}

abbrev pub invariant-loop-k : goal.invariant-loop-k
invariant-loop-k l =
    lists_of l.words.items ++ each_waiting l.below (get nat_eq l.defined) (map use_view l.uses) l.k (drop l.k l.summaries) ≡ each_waiting l.below (get nat_eq l.defined) (map use_view l.uses) 0 l.summaries
