use Rattle.std.proofs.Common.{◌≡◌, ◌++◌, map}
use Rattle.cps_ir.specs.View.{label_view}
use Rattle.cps_close.specs.inner.Pending.{part_view, parts_of}
use Rattle.cps_close.proofs.collect.expand_all.Given as goal

abbrev pub invariant-loop-c : goal.invariant-loop-c
invariant-loop-c l = map part_view l.pending.items ≡ map part_view l.initial.pending.items ++ parts_of (map (λ c. label_view c.now) l.yielded)
