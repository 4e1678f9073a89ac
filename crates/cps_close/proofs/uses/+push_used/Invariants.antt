use Rattle.cps_ir.specs.View.{term_view}
use Rattle.cps_close.specs.inner.Closed.{used}
use Rattle.cps_close.specs.inner.View.{table_view}
use Rattle.cps_close.proofs.Along.{Adds}
use Rattle.cps_close.proofs.uses.+push_used.Given as goal

abbrev pub invariant-spine : goal.invariant-spine
invariant-spine l = Adds (λ u. used (table_view l.table) (term_view u)) l.t l.cur l.initial.v.items l.v.items
