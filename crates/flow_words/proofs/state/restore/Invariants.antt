use Rattle.std.proofs.Common.{◌≡◌, vec_len}
use Rattle.flow_words.specs.Tables.{look}
use Rattle.flow_words.specs.inner.Undone.{undone}
use Rattle.flow_words.proofs.state.restore.Given as goal

abbrev pub invariant-loop-s : goal.invariant-loop-s
invariant-loop-s l = undone l.saved.items (look l.table.items) ≡ undone l.initial.saved.items (look l.initial.table.items)

abbrev pub decreases-loop-s : goal.decreases-loop-s
decreases-loop-s l = vec_len l.saved
