use Rattle.std.proofs.Common.{◌≡◌, ◌++◌, map, drop}
use Rattle.std.specs.List.{flat_map}
use Rattle.bank_prog_form.specs.Rows as lines
use Rattle.bank_prog_rows.proofs.choice.add_dirs.Given as goal
use Rattle.place_plan.specs.inner.UseViews.{use_view}

abbrev pub invariant-loop-u : goal.invariant-loop-u
invariant-loop-u l = l.cs.items ++ flat_map (lines.dir) (map use_view (drop l.u-index l.uses)) ≡ l.fn.cs.items ++ flat_map (lines.dir) (map use_view l.uses)
