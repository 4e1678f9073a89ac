use Rattle.std.proofs.Common.{◌≡◌, ℕ, nat_eq, map, drop}
use Rattle.std.specs.HashMap.{get}
use Rattle.bank_prog_form.specs.inner.Adds.{either}
use Rattle.bank_prog_form.specs.inner.Form.{value_view}
use Rattle.bank_prog_rows.specs.inner.Waiting.{point_in}
use Rattle.bank_prog_rows.proofs.spans.defined_at.Given as goal

abbrev pub invariant-loop-v : goal.invariant-loop-v
invariant-loop-v l = (x : ℕ) → either (get nat_eq l.defined x) (point_in (map value_view (drop l.v-index l.values)) x) ≡ point_in (map value_view l.values) x
