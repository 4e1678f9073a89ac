use Rattle.std.proofs.Common.{refl, ◌∙◌}
use Rattle.ssu_ir.specs.declared.node.SsuNode.TheVariants.{Halt}
use Rattle.ssu_ir.specs.Tree as ssu
use Rattle.ssu_make.specs.inner.Making.{counted}
use Rattle.ssu_make.proofs.Turns.{can-take-none, adds-node, adds-root}
use Rattle.ssu_make.proofs.NodeForms.{halt-made}
use Rattle.ssu_make.proofs.tree.make_halt.Goals as goal

pub add-requires : goal.add-requires
add-requires c = can-take-none _ _ c.requires refl

pub literals-requires : goal.literals-requires
literals-requires c =
    let words = c.in_ok-from_slice.field-0 in
    adds-root _ _ _ _ (adds-node c.args.build.now c.add.new.self (Halt c.args.e words) c.in_ok-halt.halt.0 (ssu.Halt c.args.e words.items) c.in_ok-halt.ensures.grown refl refl) c.requires

pub returns-clause-tree : goal.returns-clause-tree
returns-clause-tree c =
    let words = c.in_ok-from_slice.field-0 in
    halt-made c.args.build.now c.add.new.self c.literals.new.build (Halt c.args.e words) c.in_ok-halt.halt.0 c.in_ok-root.root.0 (counted c.args.bases.now) (counted c.new-counts.result) c.args.fresh.now c.args.e c.args.bs.now c.in_ok-ys.ys.items words.items
    c.new-counts.ensures c.in_ok-ys.ensures.names (c.in_ok-from_slice.ensures.ok ∙ c.deref.ensures.value) c.in_ok-halt.ensures.grown refl refl c.in_ok-root.ensures
