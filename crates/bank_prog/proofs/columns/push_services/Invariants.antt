use Rattle.std.proofs.Common.{◌≡◌, ◌++◌, drop}
use Rattle.std.specs.List.{flat_map}
use Rattle.bank_prog_form.specs.inner.Form as form
use Rattle.bank_prog.proofs.columns.push_services.Given as goal
use Rattle.place_plan.specs.inner.UseViews.{use_view}

abbrev pub invariant-loop-s : goal.invariant-loop-s
invariant-loop-s l = l.out.items ++ flat_map (form.service_columns l.fetched (use_view l.u)) (drop l.s-index l.services) ≡ l.fn.out.items ++ flat_map (form.service_columns l.fetched (use_view l.u)) l.services
