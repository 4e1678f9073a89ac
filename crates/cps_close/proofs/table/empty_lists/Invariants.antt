use Rattle.std.proofs.Common.{◌≡◌, map, take}
use Rattle.cps_ir.specs.View.{label_view}
use Rattle.cps_close.specs.inner.Closed.{none_wanted}
use Rattle.cps_close.proofs.table.empty_lists.Given as goal

abbrev pub invariant-loop-c : goal.invariant-loop-c
invariant-loop-c l = map (λ w. w.items) l.lists.items ≡ none_wanted (map (λ c. label_view c.now) (take l._c-index l.conts))
