use Rattle.std.proofs.Common.{◌≡◌, nat_eq, None, map, ap, arith, rules}
use Rattle.std.specs.HashMap.{get}
use Rattle.bank_prog_form.specs.inner.Adds.{either}
use Rattle.bank_prog_form.specs.inner.Form.{value_view}
use Rattle.bank_prog_rows.specs.inner.Waiting.{point_in}
use Rattle.bank_prog_rows.proofs.Waits.{points-more, points-all}
use Rattle.bank_prog_rows.proofs.spans.defined_at.Goals as goal

pub loop-v-init : goal.loop-v-init
loop-v-init c = λ x.
    let none : get nat_eq c.new-defined.result x ≡ None = search rules in
    ap (λ o. either o (point_in (map value_view c.args.values.now) x)) none

pub loop-v-preserved : goal.loop-v-preserved
loop-v-preserved c = λ x.
    points-more value_view c.args.values.now c.loop-v.v-index _ x (get nat_eq c.loop-v.defined x) (get nat_eq c.note_point.new.defined x) (point_in (map value_view c.args.values.now) x)
    (omega arith) (c.in_ok-note_point.ensures x) (c.loop-v.invariant x)

pub returns : goal.returns
returns c = λ x. points-all value_view c.args.values.now c.loop-v.v-index x (get nat_eq c.loop-v.defined x) (point_in (map value_view c.args.values.now) x) (omega arith) (c.loop-v.invariant x)
