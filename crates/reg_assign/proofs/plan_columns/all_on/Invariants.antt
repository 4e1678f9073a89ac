use Rattle.std.proofs.Common.{◌≡◌, ◌++◌, map, drop}
use Rattle.ssu_ir.specs.View.{labels_view}
use Rattle.reg_assign_reading.specs.inner.PlanTables.{told}
use Rattle.reg_assign.proofs.plan_columns.all_on.Given as goal

abbrev pub invariant-loop-c : goal.invariant-loop-c
invariant-loop-c l = l.on.items ++ map (told (labels_view l.f.ssu.now) l.t) (drop l.c-index l.columns) ≡ map (told (labels_view l.f.ssu.now) l.t) l.columns
