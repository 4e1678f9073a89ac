use Rattle.std.proofs.Common.{refl}
use Rattle.ssu_ir.specs.declared.node.SsuNode.TheVariants.{Jump}
use Rattle.ssu_ir.specs.Tree as ssu
use Rattle.ssu_make.specs.inner.Making.{counted}
use Rattle.ssu_make.proofs.Turns.{can-take-none, adds-node, adds-root}
use Rattle.ssu_make.proofs.NodeForms.{jump-made}
use Rattle.ssu_make.proofs.tree.make_jump.Goals as goal

pub add-requires : goal.add-requires
add-requires c = can-take-none _ _ c.requires refl

pub literals-requires : goal.literals-requires
literals-requires c =
    adds-root _ _ _ _ (adds-node c.args.build.now c.add.new.self (Jump c.args.l c.in_ok-ys.ys) c.in_ok-jump.jump.0 (ssu.Jump c.args.l c.in_ok-ys.ys.items) c.in_ok-jump.ensures.grown refl refl) c.requires

pub returns-clause-tree : goal.returns-clause-tree
returns-clause-tree c =
    jump-made c.args.build.now c.add.new.self c.literals.new.build (Jump c.args.l c.in_ok-ys.ys) c.in_ok-jump.jump.0 c.in_ok-root.root.0 (counted c.args.bases.now) (counted c.new-counts.result) c.args.fresh.now c.args.l c.args.bs.now c.in_ok-ys.ys.items
    c.new-counts.ensures c.in_ok-ys.ensures.names c.in_ok-jump.ensures.grown refl refl c.in_ok-root.ensures
