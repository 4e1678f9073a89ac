use Rattle.std.proofs.Common.{ap}
use Rattle.flow_ir.specs.View.{tree_view}
use Rattle.ssu_make.specs.inner.Making.{counted, successor_list}
use Rattle.ssu_make.proofs.Stack.{can-none, can-one, can-two, as-read, as-write, with-three, over-let, over-read, over-write, over-if}
use Rattle.ssu_make.proofs.tree.make_node.Goals as goal

pub make_let-requires : goal.make_let-requires
make_let-requires c =
    can-one (counted c.args.bases.now) (tree_view c.args.t.now) _ c.args.build.now c.args.fresh.now c.args.parts.now.items c.take_part-rest.new.parts.items c.take_part-rest.result c.requires (ap (λ t. successor_list (tree_view t)) c.in-Let.is) c.take_part-rest.ensures

pub returns-in-Let : goal.returns-in-Let
returns-in-Let c =
    with-three c.make_let.result _ _ _ _
    (λ r tree counts fresh. over-let (counted c.args.bases.now) c.args.fresh.now c.make_let.new.fresh (tree_view c.args.t.now) _ c.args.build.now c.make_let.new.build c.args.parts.now.items c.take_part-rest.new.parts.items c.take_part-rest.result r c.in-Let.x c.in-Let.p
    (ap tree_view c.in-Let.is) c.take_part-rest.ensures tree counts fresh)
    c.make_let.ensures.tree c.make_let.ensures.counts c.make_let.ensures.fresh

pub make_read-requires : goal.make_read-requires
make_read-requires c =
    can-one (counted c.args.bases.now) (tree_view c.args.t.now) _ c.args.build.now c.args.fresh.now c.args.parts.now.items c.take_part-rest-in-Read.new.parts.items c.take_part-rest-in-Read.result c.requires (ap (λ t. successor_list (tree_view t)) c.in-Read.is) c.take_part-rest-in-Read.ensures

pub returns-in-Read : goal.returns-in-Read
returns-in-Read c =
    with-three c.make_read.result _ _ _ _
    (λ r tree counts fresh. over-read (counted c.args.bases.now) c.args.fresh.now c.make_read.new.fresh (tree_view c.args.t.now) _ c.args.build.now c.make_read.new.build c.args.parts.now.items c.take_part-rest-in-Read.new.parts.items c.take_part-rest-in-Read.result r c.in-Read.m c.deref.result.now c.in-Read.a
    (as-read _ _ _ _ _ _ (ap tree_view c.in-Read.is) c.deref.ensures) c.take_part-rest-in-Read.ensures tree counts fresh)
    c.make_read.ensures.tree c.make_read.ensures.counts c.make_read.ensures.fresh

pub make_write-requires : goal.make_write-requires
make_write-requires c =
    can-one (counted c.args.bases.now) (tree_view c.args.t.now) _ c.args.build.now c.args.fresh.now c.args.parts.now.items c.take_part-rest-in-Write.new.parts.items c.take_part-rest-in-Write.result c.requires (ap (λ t. successor_list (tree_view t)) c.in-Write.is) c.take_part-rest-in-Write.ensures

pub returns-in-Write : goal.returns-in-Write
returns-in-Write c =
    with-three c.make_write.result _ _ _ _
    (λ r tree counts fresh. over-write (counted c.args.bases.now) c.args.fresh.now c.make_write.new.fresh (tree_view c.args.t.now) _ c.args.build.now c.make_write.new.build c.args.parts.now.items c.take_part-rest-in-Write.new.parts.items c.take_part-rest-in-Write.result r c.in-Write.m c.in-Write.a c.deref-in-Write.result.now
    (as-write _ _ _ _ _ _ (ap tree_view c.in-Write.is) c.deref-in-Write.ensures) c.take_part-rest-in-Write.ensures tree counts fresh)
    c.make_write.ensures.tree c.make_write.ensures.counts c.make_write.ensures.fresh

pub make_if-requires : goal.make_if-requires
make_if-requires c =
    can-two (counted c.args.bases.now) (tree_view c.args.t.now) _ _ c.args.build.now c.args.fresh.now c.args.parts.now.items c.take_part-first.new.parts.items c.take_part-second.new.parts.items c.take_part-first.result c.take_part-second.result
    c.requires (ap (λ t. successor_list (tree_view t)) c.in-If.is) c.take_part-first.ensures c.take_part-second.ensures

pub returns-in-If : goal.returns-in-If
returns-in-If c =
    with-three c.make_if.result _ _ _ _
    (λ r tree counts fresh. over-if (counted c.args.bases.now) c.args.fresh.now c.make_if.new.fresh (tree_view c.args.t.now) _ _ c.args.build.now c.make_if.new.build c.args.parts.now.items c.take_part-first.new.parts.items c.take_part-second.new.parts.items c.take_part-first.result c.take_part-second.result r c.in-If.c c.in-If.a c.in-If.b
    (ap tree_view c.in-If.is) c.take_part-first.ensures c.take_part-second.ensures tree counts fresh)
    c.make_if.ensures.tree c.make_if.ensures.counts c.make_if.ensures.fresh

pub make_jump-requires : goal.make_jump-requires
make_jump-requires c = can-none (counted c.args.bases.now) (tree_view c.args.t.now) c.args.build.now c.args.fresh.now c.args.parts.now.items c.requires

pub make_halt-requires : goal.make_halt-requires
make_halt-requires c = can-none (counted c.args.bases.now) (tree_view c.args.t.now) c.args.build.now c.args.fresh.now c.args.parts.now.items c.requires
