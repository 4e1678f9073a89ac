use Rattle.std.proofs.Common.{map}
use Rattle.cps_ir.specs.View.{label_view}
use Rattle.cps_close.specs.inner.View.{table_view}
use Rattle.cps_close.proofs.Steps.{Swept}
use Rattle.cps_close.proofs.table.sweep.Given as goal

abbrev pub invariant-loop-i : goal.invariant-loop-i
invariant-loop-i l = Swept (map (λ c. label_view c.now) l.conts) (table_view l.table) l.same l.i
