use Rattle.std.proofs.Common.{◌≡◌, drop}
use Rattle.std.specs.List.{list_any}
use Rattle.reg_assign_reading.specs.inner.Chosen.{is_in_bank}
use Rattle.reg_assign_reading.specs.inner.PlanTables.{copied_told}
use Rattle.reg_assign.proofs.plan_columns.has_copy.Given as goal

abbrev pub invariant-loop-q : goal.invariant-loop-q
invariant-loop-q l = list_any (is_in_bank l.h) (drop l.q-index l.qs) ≡ list_any (is_in_bank l.h) (copied_told l.t l.x)
