use Rattle.std.proofs.Common.{refl, ◌∙◌, arith, length}
use Rattle.std.specs.Prelude.{vec_capacity}
use Rattle.ssu_ir.specs.View.{labels_view}
use Rattle.ssu_ir.specs.inner.Running.{env_of}
use Rattle.ssu_ir.proofs.Unders.{present_tree}
use Rattle.ssu_ir.proofs.Runs.{made-none, made-few}
use Rattle.ssu_ir.proofs.Walking.{came-first, walk-on, walk-left, fits-at, room-same, few-successors}
use Rattle.ssu_ir.proofs.run.leave.Goals as goal

pub walk-init : goal.walk-init
walk-init c = record {
  walking = record { has = c.requires.tree; nodes = c.requires.nodes; once = c.requires.once; made = made-none _ _; ran = λ log0 w a. came-first _ _ _ _ log0 w a };
  places = refl;
  room = refl;
}

pub node-requires : goal.node-requires
node-requires c = present_tree _ _ c.walk.invariant.walking.has

pub step-requires-clause-fits : goal.step-requires-clause-fits
step-requires-clause-fits c =
    let room = room-same c.args.s.now (length c.args.values.now) (length c.walk.values) (vec_capacity c.args.words.now) (vec_capacity c.walk.words) c.requires.room c.walk.invariant.places c.walk.invariant.room in
    fits-at c.args.s.now (length c.walk.values) (vec_capacity c.walk.words) c.walk.id.0 c.node.result.now room c.walk.invariant.walking.has c.node.ensures c.walk.invariant.walking.nodes

pub step-requires-clause-room : goal.step-requires-clause-room
step-requires-clause-room c = omega (arith, c.requires.room.eight, c.walk.invariant.room)

pub step-requires-clause-countable : goal.step-requires-clause-countable
step-requires-clause-countable c = let h = made-few _ _ _ c.walk.invariant.walking.made in omega (arith, h, c.requires.countable)

pub walk-smaller : goal.walk-smaller
walk-smaller c =
    let h = walk-on c.args.s.now.nodes.slots (labels_view c.args.s.now) c.args.from.0 (env_of c.args.values.now) c.args.p.now c.args.log.now c.walk.id.0 (env_of c.walk.values) c.walk.p c.walk.log c.node.result.now c.step.result c.in-On.next c.step.new.words.items (env_of c.step.new.values) c.step.new.p c.step.new.log c.walk.invariant.walking c.node.ensures c.step.ensures.stepped c.in-On.is c.step.ensures.next c.step.ensures.counted c.step.ensures.addresses in
    h.lighter

pub walk-preserved : goal.walk-preserved
walk-preserved c =
    let h = walk-on c.args.s.now.nodes.slots (labels_view c.args.s.now) c.args.from.0 (env_of c.args.values.now) c.args.p.now c.args.log.now c.walk.id.0 (env_of c.walk.values) c.walk.p c.walk.log c.node.result.now c.step.result c.in-On.next c.step.new.words.items (env_of c.step.new.values) c.step.new.p c.step.new.log c.walk.invariant.walking c.node.ensures c.step.ensures.stepped c.in-On.is c.step.ensures.next c.step.ensures.counted c.step.ensures.addresses in
    record { walking = h.walking; places = c.step.ensures.places ∙ c.walk.invariant.places; room = c.step.ensures.room ∙ c.walk.invariant.room }

pub returns-in-Left-clause-left : goal.returns-in-Left-clause-left
returns-in-Left-clause-left c =
    λ log0 w a.
    walk-left c.args.s.now.nodes.slots (labels_view c.args.s.now) c.args.from.0 (env_of c.args.values.now) c.args.p.now c.args.log.now c.walk.id.0 (env_of c.walk.values) c.walk.p c.walk.log c.node.result.now c.step.result c.in-Left.l c.step.new.words.items (env_of c.step.new.values) c.step.new.p c.step.new.log c.walk.invariant.walking c.node.ensures c.step.ensures.stepped c.in-Left.is log0 w a

pub returns-in-Left-clause-counted : goal.returns-in-Left-clause-counted
returns-in-Left-clause-counted c =
    few-successors c.args.s.now.nodes.slots c.walk.id.0 c.node.result.now c.args.log.now.count c.walk.log.count c.step.new.log.count c.walk.invariant.walking.has c.node.ensures c.walk.invariant.walking.once c.walk.invariant.walking.made c.step.ensures.counted c.step.ensures.addresses

pub returns-in-Left-clause-room : goal.returns-in-Left-clause-room
returns-in-Left-clause-room c = c.step.ensures.room ∙ c.walk.invariant.room
