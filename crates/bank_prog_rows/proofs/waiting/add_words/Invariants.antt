use Rattle.std.proofs.Common.{◌≡◌, ◌++◌, map, drop}
use Rattle.std.specs.List.{flat_map}
use Rattle.bank_prog_rows.specs.inner.Waiting as waits
use Rattle.bank_prog_rows.proofs.waiting.add_words.Given as goal
use Rattle.place_plan.specs.inner.UseViews.{use_view}

abbrev pub invariant-loop-u : goal.invariant-loop-u
invariant-loop-u l = l.cs.items ++ flat_map (waits.word_early l.sdram l.r) (map use_view (drop l.u-index l.us)) ≡ l.fn.cs.items ++ flat_map (waits.word_early l.sdram l.r) (map use_view l.us)
