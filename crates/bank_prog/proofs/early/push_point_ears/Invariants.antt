use Rattle.std.proofs.Common.{◌≡◌, ◌++◌, map, drop}
use Rattle.std.specs.List.{flat_map}
use Rattle.bank_prog_form.specs.Columns as columns
use Rattle.bank_prog.proofs.early.push_point_ears.Given as goal
use Rattle.place_plan.specs.inner.UseViews.{use_view}

abbrev pub invariant-loop-u : goal.invariant-loop-u
invariant-loop-u l = l.out.items ++ flat_map (columns.ear_columns l.n) (map use_view (drop l.u-index l.uses)) ≡ l.fn.out.items ++ flat_map (columns.ear_columns l.n) (map use_view l.uses)
