use Rattle.std.proofs.Common.{◌≡◌, ◌++◌, map, drop}
use Rattle.std.specs.List.{flat_map}
use Rattle.bank_prog_form.specs.Columns as columns
use Rattle.ssu_ir.specs.View.{labels_view}
use Rattle.bank_prog.proofs.columns.push_srvs.Given as goal
use Rattle.place_plan.specs.inner.UseViews.{use_view}

abbrev pub invariant-loop-u : goal.invariant-loop-u
invariant-loop-u l = l.out.items ++ flat_map (columns.srv_columns (labels_view l.f.ssu.now)) (map use_view (drop l.u-index l.uses)) ≡ l.fn.out.items ++ flat_map (columns.srv_columns (labels_view l.f.ssu.now)) (map use_view l.uses)
