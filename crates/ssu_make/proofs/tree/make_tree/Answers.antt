use Rattle.std.proofs.Common.{sym, ◌∙◌}
use Rattle.std.proofs.lemmas.List.{nil_from_length}
use Rattle.flow_ir.specs.View.{tree_view}
use Rattle.ssu_make.specs.inner.Making.{counted}
use Rattle.ssu_make.proofs.Stack.{way-start, way-can, way-step, way-some, way-end}
use Rattle.ssu_make.proofs.tree.make_tree.Goals as goal

pub walk-init : goal.walk-init
walk-init c = way-start (counted c.args.bases.now) c.args.fresh.now (tree_view c.args.t.now) c.in_ok-order.order.items c.args.build.now c.new-parts.result.items c.requires c.in_ok-order.ensures c.new-parts.ensures.items

pub make_node-requires : goal.make_node-requires
make_node-requires c = way-can (counted c.args.bases.now) c.args.fresh.now c.walk.fresh (tree_view c.args.t.now) c.walk.order.items c.pop.new.self.items c.in-Some.s c.args.build.now c.walk.build c.walk.parts.items c.walk.invariant c.in-Some.ensures.items

pub walk-preserved : goal.walk-preserved
walk-preserved c =
    way-step (counted c.args.bases.now) c.args.fresh.now c.walk.fresh c.make_node.new.fresh (tree_view c.args.t.now) c.walk.order.items c.pop.new.self.items c.in-Some.s c.args.build.now c.walk.build c.make_node.new.build c.walk.parts.items c.make_node.new.parts.items c.push.new.self.items c.in_ok-part.part
    c.walk.invariant c.in-Some.ensures.items c.in_ok-part.ensures c.in_ok-push.ensures.items

pub take_part-requires : goal.take_part-requires
take_part-requires c =
    way-some (counted c.args.bases.now) c.args.fresh.now c.walk.fresh (tree_view c.args.t.now) c.walk.order.items c.args.build.now c.walk.build c.walk.parts.items c.walk.invariant
    (nil_from_length c.walk.order.items (sym c.walk.order.ok.0 ∙ c.in_default.ensures.cases.0))

pub returns : goal.returns
returns c =
    way-end (counted c.args.bases.now) c.args.fresh.now c.walk.fresh (tree_view c.args.t.now) c.walk.order.items c.args.build.now c.walk.build c.walk.parts.items c.take_part.new.parts.items c.take_part.result c.walk.invariant
    (nil_from_length c.walk.order.items (sym c.walk.order.ok.0 ∙ c.in_default.ensures.cases.0)) c.take_part.ensures
