use Rattle.std.proofs.Common.{◌≡◌, ◌++◌, map, drop}
use Rattle.std.specs.List.{flat_map}
use Rattle.reg_assign_reading.specs.inner.Reading.{says, early_word}
use Rattle.reg_assign.proofs.homes.push_words.Given as goal
use Rattle.place_plan.specs.inner.UseViews.{use_view}

abbrev pub invariant-loop-u : goal.invariant-loop-u
invariant-loop-u l = l.out.items ++ flat_map (early_word (says l.r)) (map use_view (drop l.u-index l.us)) ≡ l.fn.out.items ++ flat_map (early_word (says l.r)) (map use_view l.us)
