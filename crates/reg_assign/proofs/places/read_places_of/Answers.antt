use Rattle.std.proofs.Common.{◌≡◌, ap, map, nat_eq, None, arith, rules}
use Rattle.std.specs.HashMap.{get}
use Rattle.bank_prog_form.specs.inner.Form.{value_view}
use Rattle.reg_assign_reading.specs.ReadOff.{place_in}
use Rattle.reg_assign_reading.specs.inner.Reading.{says}
use Rattle.reg_assign.proofs.Placed.{place_then, places-more, places-all}
use Rattle.reg_assign.proofs.places.read_places_of.Goals as goal

pub loop-v-init : goal.loop-v-init
loop-v-init c = λ x.
    let none : get nat_eq c.new-came.result x ≡ None = search rules in
    ap (λ o. place_then o (place_in (says c.args.r.now) (map value_view c.args.values.now) x)) none

pub loop-v-preserved : goal.loop-v-preserved
loop-v-preserved c = λ x.
    places-more (says c.args.r.now) c.args.values.now c.loop-v.v-index _ x (get nat_eq c.loop-v.came x) (get nat_eq c.note.new.came x) _ (place_in (says c.args.r.now) (map value_view c.args.values.now) x)
    (omega arith) (c.in_ok-note.ensures x) c.in_ok-origin_place.ensures (c.loop-v.invariant x)

pub returns : goal.returns
returns c = λ x. places-all (says c.args.r.now) c.args.values.now c.loop-v.v-index x (get nat_eq c.loop-v.came x) (place_in (says c.args.r.now) (map value_view c.args.values.now) x) (omega arith) (c.loop-v.invariant x)
