use Rattle.std.proofs.Common.{◌≡◌, ℕ, map, drop, nat_eq}
use Rattle.std.specs.HashMap.{get}
use Rattle.bank_prog_form.specs.Columns.{origin_in}
use Rattle.bank_prog_form.specs.inner.Form.{value_view, origin_found}
use Rattle.bank_prog_form.proofs.Tabled.{sort_then}
use Rattle.bank_prog_form.proofs.tables.all_origins.Given as goal

abbrev pub invariant-loop-v : goal.invariant-loop-v
invariant-loop-v l = (x : ℕ) → sort_then (origin_found (get nat_eq l.origins x)) (origin_in (map value_view (drop l.v-index l.values)) x) ≡ origin_in (map value_view l.values) x
