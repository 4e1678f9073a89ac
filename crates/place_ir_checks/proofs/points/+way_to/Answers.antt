use Rattle.std.proofs.Common.{◌≡◌, ◌+◌, ◌-◌, ◌∙◌, sym, ap, refl, arith}
use Rattle.nv_base.specs.Sets.{is_in}
use Rattle.ssu_ir.specs.Points.{nodes}
use Rattle.ssu_ir.specs.inner.Under.{tree_at}
use Rattle.ssu_ir.proofs.Unders.{one_kid, two_kids}
use Rattle.place_ir_checks.proofs.Walked.{above-as, above-behind-one, above-behind-first, above-behind-second, there-same, or-then, or-else}
use Rattle.place_ir_checks.proofs.points.+way_to.Goals as goal

pub returns-then-k-eq0-clause-there : goal.returns-then-k-eq0-clause-there
returns-then-k-eq0-clause-there t c = λ b e. above-as _ _ _ b c.if-k-eq0.true e

pub way_to-requires : goal.way_to-requires
way_to-requires t c = let o = one_kid _ _ _ _ c.requires c.node-n.ensures c.in-One.ensures in (omega (arith, c.decreases, o.kid.lighter), o.kid.has)

pub way_to-requires-in-Two : goal.way_to-requires-in-Two
way_to-requires-in-Two t c = let o = two_kids _ _ _ _ _ c.requires c.node-n.ensures c.in-Two.ensures in (omega (arith, c.decreases, o.first.lighter), o.first.has)

pub way_to-requires-in-Past-way_to : goal.way_to-requires-in-Past-way_to
way_to-requires-in-Past-way_to t c = let o = two_kids _ _ _ _ _ c.requires c.node-n.ensures c.in-Two.ensures in (omega (arith, c.decreases, o.second.lighter), o.second.has)

pub returns-then-has-clause-there : goal.returns-then-has-clause-there
returns-then-has-clause-there t c = λ b e.
    above-behind-one _ _ _ _ c.args.k (c.args.k - 1) c.args.x c.values.result.now c.in-There.below b (one_kid _ _ _ _ c.requires c.node-n.ensures c.in-One.ensures) (omega (arith, c.if-k-eq0.false)) c.values.ensures
    (sym (or-then (is_in c.args.x c.values.result.now) c.in-There.below c.has.result c.has.ensures c.if-has.true) ∙ there-same _ _ e) (c.in-There.ensures.there c.in-There.below refl)

pub returns-else-has-clause-there : goal.returns-else-has-clause-there
returns-else-has-clause-there t c = λ b e.
    above-behind-one _ _ _ _ c.args.k (c.args.k - 1) c.args.x c.values.result.now c.in-There.below b (one_kid _ _ _ _ c.requires c.node-n.ensures c.in-One.ensures) (omega (arith, c.if-k-eq0.false)) c.values.ensures
    (sym (or-else (is_in c.args.x c.values.result.now) c.in-There.below c.has.result c.has.ensures c.if-has.false) ∙ there-same _ _ e) (c.in-There.ensures.there c.in-There.below refl)

pub returns-in-Past-clause-past : goal.returns-in-Past-clause-past
returns-in-Past-clause-past t c = λ m e.
    let o = one_kid _ _ _ _ c.requires c.node-n.ensures c.in-One.ensures in
    let g : nodes (tree_at c.args.s.now.nodes.slots c.args.id.0) ≡ 1 + nodes (tree_at c.args.s.now.nodes.slots c.in-One.j.0) = ap nodes o.tree in
    let w = c.in-Past.ensures.past m e in
    omega (arith, c.if-k-eq0.false)

pub returns-in-There-way_to-clause-there : goal.returns-in-There-way_to-clause-there
returns-in-There-way_to-clause-there t c = λ b e.
    above-behind-first _ _ _ _ _ c.args.k (c.args.k - 1) c.args.x b (two_kids _ _ _ _ _ c.requires c.node-n.ensures c.in-Two.ensures) (omega (arith, c.if-k-eq0.false)) (c.in-There-way_to.ensures.there b e)

pub returns-in-Past-way_to-clause-there : goal.returns-in-Past-way_to-clause-there
returns-in-Past-way_to-clause-there t c = λ b e.
    let w = c.in-Past-way_to.ensures.past c.in-Past-way_to.m refl in
    above-behind-second _ _ _ _ _ c.args.k c.in-Past-way_to.m c.args.x b (two_kids _ _ _ _ _ c.requires c.node-n.ensures c.in-Two.ensures) (omega (arith, c.if-k-eq0.false)) (c.way_to-in-Past-way_to.ensures.there b e)

pub returns-in-Past-way_to-clause-past : goal.returns-in-Past-way_to-clause-past
returns-in-Past-way_to-clause-past t c = λ m e.
    let o = two_kids _ _ _ _ _ c.requires c.node-n.ensures c.in-Two.ensures in
    let g : nodes (tree_at c.args.s.now.nodes.slots c.args.id.0) ≡ 1 + (nodes (tree_at c.args.s.now.nodes.slots c.in-Two.i.0) + nodes (tree_at c.args.s.now.nodes.slots c.in-Two.j.0)) = ap nodes o.tree in
    let w = c.in-Past-way_to.ensures.past c.in-Past-way_to.m refl in
    let v = c.way_to-in-Past-way_to.ensures.past m e in
    omega (arith, c.if-k-eq0.false)
