use Rattle.std.proofs.Common.{map}
use Rattle.cps_ir.specs.View.{label_view}
use Rattle.cps_close.specs.inner.Closed.{IsReached}
use Rattle.cps_close.specs.inner.View.{table_view}
use Rattle.cps_close.proofs.table.table_of.Given as goal

abbrev pub invariant-loop-round : goal.invariant-loop-round
invariant-loop-round l = IsReached (map (λ c. label_view c.now) l.conts) (table_view l.table)
