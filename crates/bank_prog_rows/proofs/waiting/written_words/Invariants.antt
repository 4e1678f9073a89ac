use Rattle.std.proofs.Common.{◌≡◌, ◌++◌, map, drop}
use Rattle.std.specs.List.{flat_map}
use Rattle.bank_prog_rows.specs.inner.Waiting.{written_only}
use Rattle.bank_prog_rows.proofs.waiting.written_words.Given as goal
use Rattle.place_plan.specs.inner.UseViews.{use_view}

abbrev pub invariant-loop-u : goal.invariant-loop-u
invariant-loop-u l = map use_view l.kept.items ++ flat_map written_only (map use_view (drop l.u-index l.uses)) ≡ flat_map written_only (map use_view l.uses)
