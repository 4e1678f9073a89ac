use Rattle.std.proofs.Common.{◌≡◌, map, drop}
use Rattle.std.specs.List.{list_any}
use Rattle.ssu_ir.specs.View.{labels_view}
use Rattle.place_plan.specs.Uses as pure
use Rattle.place_plan.specs.Uses.{is_used}
use Rattle.bank_prog_form.specs.inner.Form.{value_view}
use Rattle.bank_prog.proofs.columns.any_used.Given as goal

abbrev pub invariant-loop-v : goal.invariant-loop-v
invariant-loop-v l =
    list_any (λ (v : pure.Value). is_used (labels_view l.f.ssu.now) v.var) (map value_view (drop l.v-index l.values)) ≡ list_any (λ (v : pure.Value). is_used (labels_view l.f.ssu.now) v.var) (map value_view l.values)
