use Rattle.std.proofs.Common.{length, refl, ap, arith}
use Rattle.std.proofs.lemmas.List.{get_or_read}
use Rattle.ssu_ir.specs.declared.node.SsuNode.TheVariants.{If}
use Rattle.ssu_make.specs.inner.Making.{counted}
use Rattle.ssu_make.specs.Made.{most}
use Rattle.ssu_make.proofs.Turns.{can-take-two, joined-node, joined-root}
use Rattle.ssu_make.proofs.NodeForms.{if-made}
use Rattle.ssu_make.proofs.tree.make_if.Goals as goal

pub add-requires : goal.add-requires
add-requires c = can-take-two _ _ _ _ c.requires refl

pub literals-requires : goal.literals-requires
literals-requires c =
    let x = c.index.result.now in
    let y = c.index-2.result.now in
    joined-root _ _ _ _ _ _ (joined-node c.args.build.now c.add.new.self (If c.args.c x y c.args.arm.root c.args.part.root) c.args.arm.root.0 c.args.part.root.0 c.in_ok-fork.fork.0 c.args.c x y c.in_ok-fork.ensures.grown refl refl) c.requires

pub returns-clause-tree : goal.returns-clause-tree
returns-clause-tree c =
    let x = c.index.result.now in
    let y = c.index-2.result.now in
    let ys = c.in_ok-ys.ys.items in
    let two = ap length c.in_ok-ys.ensures.names in
    if-made c.args.build.now c.add.new.self c.literals.new.build (If c.args.c x y c.args.arm.root c.args.part.root) c.args.arm.root.0 c.args.part.root.0 c.in_ok-fork.fork.0 c.in_ok-root.root.0
    (counted c.args.bases.now) (most (counted c.args.arm.counts) (counted c.args.part.counts)) (counted c.in_ok-counts.counts) c.args.fresh.now c.args.c c.args.a c.args.b ys x y
    c.in_ok-counts.ensures c.in_ok-ys.ensures.names (get_or_read ys 0 x (omega (arith, two)) c.index.ensures 0) (get_or_read ys 1 y (omega (arith, two)) c.index-2.ensures 0) c.in_ok-fork.ensures.grown refl refl c.in_ok-root.ensures
