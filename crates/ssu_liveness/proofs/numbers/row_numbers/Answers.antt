use Rattle.std.proofs.Common.{map, length, ap, ◌∙◌, arith, nat_eq}
use Rattle.std.specs.HashMap.{get}
use Rattle.nv_base.specs.Sets.{all_different}
use Rattle.ssu_liveness.specs.LiveRows.{items_of}
use Rattle.ssu_liveness.specs.inner.Numbers.{values_among}
use Rattle.ssu_liveness.specs.inner.PointIds.{kind_of_point}
use Rattle.ssu_liveness.proofs.Covering.{once-at-points, kept-numbers}
use Rattle.ssu_liveness.proofs.Kept.{if-ok-map}
use Rattle.ssu_liveness.proofs.numbers.row_numbers.Goals as goal

pub slots_for-requires-clause-once : goal.slots_for-requires-clause-once
slots_for-requires-clause-once c =
    let s = c.args.s.now in
    ap (λ ps. all_different (values_among ps)) (ap (map (kind_of_point s)) c.deref.ensures.value ∙ c.in_ok-point_ids.ensures) ∙ once-at-points s c.requires

pub slots_for-requires-clause-count : goal.slots_for-requires-clause-count
slots_for-requires-clause-count c = let e = ap (λ ps. length ps) c.deref.ensures.value in omega arith

pub returns : goal.returns
returns c =
    let s = c.args.s.now in
    let there = ap (map (kind_of_point s)) c.deref.ensures.value ∙ c.in_ok-point_ids.ensures in
    λ keep n z l. if-ok-map c.slots_for.result _ _ (λ m a. kept-numbers s keep (get nat_eq m) n (map (kind_of_point s) c.deref.result.now) (items_of c.args.rows.now) c.requires there a z l) c.slots_for.ensures
