use Rattle.std.proofs.Common.{◌≡◌, nat_eq, map, length, sym, ap, ◌∙◌, arith}
use Rattle.std.specs.HashMap.{get}
use Rattle.nv_base.specs.Sets.{all_different}
use Rattle.ssu_ir.specs.Measures as measures
use Rattle.ssu_ir.specs.View.{labels_view}
use Rattle.place_plan.specs.declared.place.PlaceError.TheVariants.{TooFew as WantsSlots}
use Rattle.ssu_liveness.specs.LiveRows.{items_of}
use Rattle.ssu_liveness.specs.inner.Live.{longest}
use Rattle.ssu_liveness.specs.inner.Numbers.{values_among}
use Rattle.ssu_liveness.specs.inner.PointIds.{kind_of_point}
use Rattle.ssu_liveness.proofs.Covering.{longest-of-whole, once-at-points, row-each-point}
use Rattle.place_plan.proofs.Covered.{numbers-there}
use Rattle.place_plan.proofs.spill.numbers_below.Goals as goal

pub returns-then-wanted-slots-clause-few : goal.returns-then-wanted-slots-clause-few
returns-then-wanted-slots-clause-few c = λ n e.
    let s = c.args.s.now in
    let same : c.too_few.result ≡ WantsSlots n = cc in
    let a : n ≡ c.longest_row-wanted.result = c.too_few.ensures n same in
    let b : c.longest_row-wanted.result ≡ longest (items_of c.in_ok-rows.rows.items) = c.longest_row-wanted.ensures ∙ ap (λ r. longest (items_of r)) c.deref.ensures.value in
    let d : longest (items_of c.in_ok-rows.rows.items) ≡ measures.peak (labels_view s) = longest-of-whole s (get nat_eq c.args.copies.now) (items_of c.in_ok-rows.rows.items) c.requires.single c.requires.copies c.in_ok-rows.ensures in
    (a ∙ b ∙ d, omega arith)

pub slots_for-requires-clause-once : goal.slots_for-requires-clause-once
slots_for-requires-clause-once c =
    let s = c.args.s.now in
    ap (λ ps. all_different (values_among ps)) c.requires.point_ids ∙ once-at-points s c.requires.single

pub slots_for-requires-clause-count : goal.slots_for-requires-clause-count
slots_for-requires-clause-count c =
    let same = row-each-point c.args.s.now (get nat_eq c.args.copies.now) c.in_ok-rows.rows.items c.args.point_ids.now c.requires.single c.requires.copies c.in_ok-rows.ensures c.requires.point_ids in
    ap (λ r. length r) c.deref-2.ensures.value ∙ same

pub returns-clause-numbered : goal.returns-clause-numbered
returns-clause-numbered c =
    let s = c.args.s.now in
    let a : c.longest_row-wanted.result ≡ longest (items_of c.deref-2.result.now) = c.longest_row-wanted.ensures ∙ ap (λ r. longest (items_of r)) (c.deref.ensures.value ∙ sym c.deref-2.ensures.value) in
    numbers-there s (get nat_eq c.args.copies.now) (get nat_eq c.in_ok-slots_for.field-0) c.args.slots (map (kind_of_point s) c.args.point_ids.now) (items_of c.deref-2.result.now) c.requires.single c.requires.copies
    c.requires.point_ids (ap items_of c.deref-2.ensures.value ∙ c.in_ok-rows.ensures) c.in_ok-slots_for.ensures (omega arith)

pub returns-clause-enough : goal.returns-clause-enough
returns-clause-enough c =
    let s = c.args.s.now in
    let b : c.longest_row-wanted.result ≡ longest (items_of c.in_ok-rows.rows.items) = c.longest_row-wanted.ensures ∙ ap (λ r. longest (items_of r)) c.deref.ensures.value in
    let d : longest (items_of c.in_ok-rows.rows.items) ≡ measures.peak (labels_view s) = longest-of-whole s (get nat_eq c.args.copies.now) (items_of c.in_ok-rows.rows.items) c.requires.single c.requires.copies c.in_ok-rows.ensures in
    omega arith
