use Rattle.std.proofs.Common.{◌≡◌, ◌++◌, map, drop, nat_eq}
use Rattle.std.specs.HashMap.{get}
use Rattle.ssu_liveness.specs.inner.Live.{value_by}
use Rattle.place_plan.specs.inner.Parts.{gather}
use Rattle.ssu_liveness.specs.inner.PointIds.{kind_of_point}
use Rattle.bank_prog_form.specs.inner.Form.{summary_view, parts_at}
use Rattle.bank_prog_form.proofs.tables.summaries_of.Given as goal

abbrev pub invariant-loop-k : goal.invariant-loop-k
invariant-loop-k l =
    map summary_view l.summaries.items ++ gather (parts_at (value_by (get nat_eq l.copies))) l.k (map (kind_of_point l.s) (drop l.k l.point_ids)) ≡ gather (parts_at (value_by (get nat_eq l.copies))) 0 (map (kind_of_point l.s) l.point_ids)
