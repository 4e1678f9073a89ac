use Rattle.std.proofs.Common.{length, refl, ap, ◌∙◌, arith}
use Rattle.std.proofs.lemmas.List.{get_or_read}
use Rattle.ssu_ir.specs.declared.node.SsuNode.TheVariants.{Read}
use Rattle.ssu_ir.specs.Tree as ssu
use Rattle.ssu_make.specs.inner.Making.{counted}
use Rattle.ssu_make.proofs.Turns.{can-take-one, becomes-node, becomes-root}
use Rattle.ssu_make.proofs.NodeForms.{read-made}
use Rattle.ssu_make.proofs.tree.make_read.Goals as goal

pub add-requires : goal.add-requires
add-requires c = can-take-one _ _ c.in_ok-behind.behind.0 (becomes-root _ _ _ _ _ c.in_ok-behind.ensures c.requires) refl

pub literals-requires : goal.literals-requires
literals-requires c =
    let own = c.in_ok-from_slice.field-0 in
    let y = c.index.result.now in
    becomes-root _ _ _ _ _ (becomes-node c.clones.new.build c.add.new.self (Read c.args.m own y c.in_ok-behind.behind) c.in_ok-behind.behind.0 c.in_ok-read.read.0 (ssu.Read c.args.m own.items y) c.in_ok-read.ensures.grown refl refl)
    (becomes-root _ _ _ _ _ c.in_ok-behind.ensures c.requires)

pub returns-clause-tree : goal.returns-clause-tree
returns-clause-tree c =
    let own = c.in_ok-from_slice.field-0 in
    let ys = c.in_ok-ys.ys.items in
    let y = c.index.result.now in
    let one = ap length c.in_ok-ys.ensures.names in
    let words = c.in_ok-from_slice.ensures.ok ∙ c.deref.ensures.value ∙ c.in_ok-own.ensures in
    read-made c.args.build.now c.clones.new.build c.add.new.self c.literals.new.build (Read c.args.m own y c.in_ok-behind.behind) c.args.part.root.0 c.in_ok-behind.behind.0 c.in_ok-read.read.0 c.in_ok-root.root.0
    (counted c.args.bases.now) (counted c.args.part.counts) (counted c.forget.new.self) c.args.fresh.now c.args.m c.args.xs.now c.args.a own.items ys y
    c.in_ok-behind.ensures words c.forget.ensures c.in_ok-ys.ensures.names (get_or_read ys 0 y (omega (arith, one)) c.index.ensures 0) c.in_ok-read.ensures.grown refl refl c.in_ok-root.ensures
