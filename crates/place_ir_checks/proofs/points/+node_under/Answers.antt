use Rattle.std.proofs.Common.{◌≡◌, ◌+◌, ◌-◌, ap, refl, arith}
use Rattle.ssu_ir.specs.Points.{nodes}
use Rattle.ssu_ir.specs.inner.Under.{tree_at}
use Rattle.ssu_ir.proofs.Unders.{one_kid, two_kids}
use Rattle.place_ir_checks.proofs.Walked.{here-as, node-behind-one, node-behind-first, node-behind-second}
use Rattle.place_ir_checks.proofs.points.+node_under.Goals as goal

pub returns-then-k-eq0-clause-here : goal.returns-then-k-eq0-clause-here
returns-then-k-eq0-clause-here t c = λ x e. here-as _ _ c.args.id x c.requires c.if-k-eq0.true e

pub node_under-requires : goal.node_under-requires
node_under-requires t c = let o = one_kid _ _ _ _ c.requires c.node.ensures c.in-One.ensures in (omega (arith, c.decreases, o.kid.lighter), o.kid.has)

pub node_under-requires-in-Two : goal.node_under-requires-in-Two
node_under-requires-in-Two t c = let o = two_kids _ _ _ _ _ c.requires c.node.ensures c.in-Two.ensures in (omega (arith, c.decreases, o.first.lighter), o.first.has)

pub node_under-requires-in-Past : goal.node_under-requires-in-Past
node_under-requires-in-Past t c = let o = two_kids _ _ _ _ _ c.requires c.node.ensures c.in-Two.ensures in (omega (arith, c.decreases, o.second.lighter), o.second.has)

pub returns-in-One-clause-here : goal.returns-in-One-clause-here
returns-in-One-clause-here t c = λ x e.
    node-behind-one _ _ _ _ c.args.k (c.args.k - 1) x.0 (one_kid _ _ _ _ c.requires c.node.ensures c.in-One.ensures) (omega (arith, c.if-k-eq0.false)) (c.node_under.ensures.here x e)

pub returns-in-One-clause-past : goal.returns-in-One-clause-past
returns-in-One-clause-past t c = λ m e.
    let o = one_kid _ _ _ _ c.requires c.node.ensures c.in-One.ensures in
    let g : nodes (tree_at c.args.s.now.nodes.slots c.args.id.0) ≡ 1 + nodes (tree_at c.args.s.now.nodes.slots c.in-One.j.0) = ap nodes o.tree in
    let w = c.node_under.ensures.past m e in
    omega (arith, c.if-k-eq0.false)

pub returns-in-Here-clause-here : goal.returns-in-Here-clause-here
returns-in-Here-clause-here t c = λ x e.
    node-behind-first _ _ _ _ _ c.args.k (c.args.k - 1) x.0 (two_kids _ _ _ _ _ c.requires c.node.ensures c.in-Two.ensures) (omega (arith, c.if-k-eq0.false)) (c.in-Here.ensures.here x e)

pub returns-in-Past-clause-here : goal.returns-in-Past-clause-here
returns-in-Past-clause-here t c = λ x e.
    let w = c.in-Past.ensures.past c.in-Past.m refl in
    node-behind-second _ _ _ _ _ c.args.k c.in-Past.m x.0 (two_kids _ _ _ _ _ c.requires c.node.ensures c.in-Two.ensures) (omega (arith, c.if-k-eq0.false)) (c.node_under-in-Past.ensures.here x e)

pub returns-in-Past-clause-past : goal.returns-in-Past-clause-past
returns-in-Past-clause-past t c = λ m e.
    let o = two_kids _ _ _ _ _ c.requires c.node.ensures c.in-Two.ensures in
    let g : nodes (tree_at c.args.s.now.nodes.slots c.args.id.0) ≡ 1 + (nodes (tree_at c.args.s.now.nodes.slots c.in-Two.i.0) + nodes (tree_at c.args.s.now.nodes.slots c.in-Two.j.0)) = ap nodes o.tree in
    let w = c.in-Past.ensures.past c.in-Past.m refl in
    let v = c.node_under-in-Past.ensures.past m e in
    omega (arith, c.if-k-eq0.false)
