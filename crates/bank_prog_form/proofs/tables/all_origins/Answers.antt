use Rattle.std.proofs.Common.{◌≡◌, map, ap, nat_eq, arith}
use Rattle.std.proofs.Common.{None, rules}
use Rattle.std.specs.HashMap.{get}
use Rattle.bank_prog_form.specs.Columns.{origin_in}
use Rattle.bank_prog_form.specs.inner.Form.{value_view, origin_found}
use Rattle.bank_prog_form.proofs.Tabled.{sort_then, origins-more, origins-all}
use Rattle.bank_prog_form.proofs.tables.all_origins.Goals as goal

pub loop-v-init : goal.loop-v-init
loop-v-init c = λ x.
    let none : get nat_eq c.new-origins.result x ≡ None = search rules in
    ap (λ o. sort_then (origin_found o) (origin_in (map value_view c.args.values.now) x)) none

pub loop-v-preserved : goal.loop-v-preserved
loop-v-preserved c = λ x.
    origins-more value_view c.args.values.now c.loop-v.v-index _ x (origin_found (get nat_eq c.loop-v.origins x)) (origin_found (get nat_eq c.note_origin.new.origins x)) (origin_in (map value_view c.args.values.now) x)
    (omega arith) (c.in_ok-note_origin.ensures x) (c.loop-v.invariant x)

pub returns : goal.returns
returns c = λ x. origins-all value_view c.args.values.now c.loop-v.v-index x (get nat_eq c.loop-v.origins x) (origin_in (map value_view c.args.values.now) x) (omega arith) (c.loop-v.invariant x)
