use Rattle.std.proofs.Common.{nat_eq, get_or, rules, arith}
use Rattle.std.specs.HashMap.{get}
use Rattle.std.proofs.lemmas.List.{get_or_default}
use Rattle.ssu_liveness.specs.declared.point_ids.PointId.TheVariants.{Entry}
use Rattle.ssu_liveness.proofs.Numbering.{giving-none, giving-more, giving-all, giving-once, giving-fresh}
use Rattle.ssu_liveness.proofs.slots.slots_for.Goals as goal

pub point_slots-requires-clause-once : goal.point_slots-requires-clause-once
point_slots-requires-clause-once c =
    let point_ids = c.args.point_ids.now in
    let x = get_or point_ids c.loop-k.k (Entry 0) in
    giving-once c.args.s.now point_ids c.args.rows.now c.loop-k.k (get nat_eq c.new-slots.result) (get nat_eq c.loop-k.slots) x (omega arith) (get_or_default point_ids c.loop-k.k (Entry 0) x (omega arith)) c.loop-k.invariant

pub point_slots-requires-clause-fresh : goal.point_slots-requires-clause-fresh
point_slots-requires-clause-fresh c =
    let point_ids = c.args.point_ids.now in
    let x = get_or point_ids c.loop-k.k (Entry 0) in
    giving-fresh c.args.s.now point_ids c.args.rows.now c.loop-k.k (get nat_eq c.new-slots.result) (get nat_eq c.loop-k.slots) x (omega arith) (get_or_default point_ids c.loop-k.k (Entry 0) x (omega arith)) c.loop-k.invariant

pub loop-k-init : goal.loop-k-init
loop-k-init c = giving-none c.args.s.now c.args.point_ids.now c.args.rows.now (get nat_eq c.new-slots.result) c.requires.once (λ z. search rules)

pub loop-k-preserved : goal.loop-k-preserved
loop-k-preserved c =
    let point_ids = c.args.point_ids.now in
    let x = get_or point_ids c.loop-k.k (Entry 0) in
    giving-more c.args.s.now point_ids c.args.rows.now c.loop-k.k (get nat_eq c.new-slots.result) (get nat_eq c.loop-k.slots) (get nat_eq c.point_slots.new.slots) x (omega arith) (get_or_default point_ids c.loop-k.k (Entry 0) x (omega arith))
    c.requires.count c.in_ok-point_slots.ensures c.loop-k.invariant

pub returns : goal.returns
returns c = giving-all c.args.s.now c.args.point_ids.now c.args.rows.now c.loop-k.k (get nat_eq c.new-slots.result) (get nat_eq c.loop-k.slots) (omega arith) (λ z. search rules) c.loop-k.invariant
