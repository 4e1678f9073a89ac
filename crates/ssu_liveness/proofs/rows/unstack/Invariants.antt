use Rattle.std.proofs.Common.{◌≡◌, ◌++◌}
use Rattle.std.specs.Prelude.{vec_len}
use Rattle.ssu_liveness.specs.LiveRows.{items_of}
use Rattle.ssu_liveness.specs.inner.Live.{on_stack}
use Rattle.ssu_liveness.proofs.rows.unstack.Given as goal

abbrev pub invariant-walk : goal.invariant-walk
invariant-walk l = items_of l.rows.items ++ on_stack l.left.items ≡ items_of l.fn.rows.items ++ on_stack l.fn.stack.items

abbrev pub decreases-walk : goal.decreases-walk
decreases-walk l = vec_len l.left
