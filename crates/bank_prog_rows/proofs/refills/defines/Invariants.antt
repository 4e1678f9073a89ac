use Rattle.std.proofs.Common.{◌≡◌, map, drop}
use Rattle.nv_base.specs.Sets.{is_in}
use Rattle.place_plan.specs.Uses as pure
use Rattle.bank_prog_form.specs.inner.Form.{value_view}
use Rattle.bank_prog_rows.proofs.refills.defines.Given as goal

abbrev pub invariant-loop-v : goal.invariant-loop-v
invariant-loop-v l = is_in l.x (map (λ (v : pure.Value). v.var) (map value_view (drop l.v-index l.values))) ≡ is_in l.x (map (λ (v : pure.Value). v.var) (map value_view l.values))
