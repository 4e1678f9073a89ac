use Rattle.std.proofs.Common.{ap, subst, ◌∙◌}
use Rattle.ssu_make.specs.inner.Making.{counted, Becomes}
use Rattle.ssu_make.specs.Made.{names, literals}
use Rattle.ssu_make.proofs.Turns.{can-take-one, becomes-node, becomes-root}
use Rattle.ssu_make.proofs.NodeForms.{let-made}
use Rattle.ssu_make.proofs.tree.make_let.Goals as goal

pub add-requires : goal.add-requires
add-requires c = can-take-one _ _ c.in_ok-behind.behind.0 (becomes-root _ _ _ _ _ c.in_ok-behind.ensures c.requires) c.prim_node.ensures.children

pub literals-requires : goal.literals-requires
literals-requires c =
    becomes-root _ _ _ _ _ (becomes-node c.clones.new.build c.add.new.self c.prim_node.result c.in_ok-behind.behind.0 c.in_ok-node.node.0 _ c.in_ok-node.ensures.grown c.prim_node.ensures.node c.prim_node.ensures.children)
    (becomes-root _ _ _ _ _ c.in_ok-behind.ensures c.requires)

pub returns-clause-tree : goal.returns-clause-tree
returns-clause-tree c =
    let base = counted c.args.bases.now in
    let n = c.args.fresh.now in
    let list = c.in_ok-list.list.items in
    let r' = counted c.forget.new.self in
    let ys = c.deref-2.ensures.value ∙ c.in_ok-ys.ensures.names ∙ ap (names base r' n) c.deref.ensures.value in
    let after = subst (λ l. Becomes c.add.new.self c.literals.new.build c.in_ok-node.node.0 c.in_ok-root.root.0 (literals n l)) c.deref-3.ensures.value c.in_ok-root.ensures in
    let-made c.args.build.now c.clones.new.build c.add.new.self c.literals.new.build c.prim_node.result c.args.part.root.0 c.in_ok-behind.behind.0 c.in_ok-node.node.0 c.in_ok-root.root.0 base (counted c.args.part.counts) r' n c.args.x c.in_ok-own.own c.args.p list c.deref-2.result.now
    c.in_ok-behind.ensures c.in_ok-own.ensures c.forget.ensures c.in_ok-list.ensures ys c.in_ok-node.ensures.grown c.prim_node.ensures.node c.prim_node.ensures.children after
