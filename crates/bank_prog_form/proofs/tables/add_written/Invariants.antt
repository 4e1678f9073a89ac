use Rattle.std.proofs.Common.{◌≡◌, ◌++◌, ◌+◌, map, drop, nat_eq}
use Rattle.std.specs.HashMap.{get}
use Rattle.place_plan.specs.Uses as pure
use Rattle.place_plan.specs.inner.UseViews.{use_view}
use Rattle.ssu_liveness.specs.inner.Live.{value_by}
use Rattle.bank_prog_form.specs.inner.Form as form
use Rattle.bank_prog_form.proofs.tables.add_written.Given as goal

abbrev pub invariant-loop-i : goal.invariant-loop-i
invariant-loop-i l =
    map use_view l.uses.items ++ form.uses_from (value_by (get nat_eq l.copies)) l.k (l.i + 1) (pure.Written l.m) l.i (drop l.i l.xs)
    ≡ map use_view l.fn.uses.items ++ form.uses_from (value_by (get nat_eq l.copies)) l.k 1 (pure.Written l.m) 0 l.xs
