use Rattle.std.proofs.Common.{◌≡◌, ◌-◌, ◌∙◌, sym, ap, refl, arith}
use Rattle.nv_base.specs.Sets.{is_in}
use Rattle.ssu_ir.specs.declared.node.SsuLabel.{SsuLabel}
use Rattle.place_ir_checks.proofs.Walked.{get-item, body-has, entry-above, node-above, none-above, label-passed, label-same, or-then, or-else}
use Rattle.place_ir_checks.proofs.points.is_above.Goals as goal

pub returns-then-left-eq0 : goal.returns-then-left-eq0
returns-then-left-eq0 c = entry-above c.args.s.now c.args.k c.loop-l.l c.loop-l.left c.args.x (omega (arith, c.args.s.now.labels.ok.0)) c.if-left-eq0.true c.loop-l.invariant

pub way_to-requires : goal.way_to-requires
way_to-requires c = let s = c.args.s.now in body-has s c.loop-l.l c.index.result.now (get-item s.labels.items c.loop-l.l c.index.result.now (omega (arith, s.labels.ok.0)) c.index.ensures)

pub returns-then-has : goal.returns-then-has
returns-then-has c =
    let s = c.args.s.now in
    let x = c.args.x in
    let same = label-same s c.loop-l.l c.index.result.now c.index-in-There.result.now (get-item s.labels.items c.loop-l.l c.index.result.now (omega (arith, s.labels.ok.0)) c.index.ensures) (get-item s.labels.items c.loop-l.l c.index-in-There.result.now (omega (arith, s.labels.ok.0)) c.index-in-There.ensures) in
    let listed : c.deref.result.now ≡ c.index.result.now.params.items = c.deref.ensures.value ∙ ap (λ (l : SsuLabel). l.params.items) (sym same) in
    or-then (is_in x c.index.result.now.params.items) c.in-There.below c.has.result (c.has.ensures ∙ ap (is_in x) listed) c.if-has.true
    ∙ node-above s c.args.k c.loop-l.l c.loop-l.left (c.loop-l.left - 1) x c.index.result.now c.in-There.below (get-item s.labels.items c.loop-l.l c.index.result.now (omega (arith, s.labels.ok.0)) c.index.ensures) (omega (arith, c.if-left-eq0.false)) (c.in-There.ensures.there c.in-There.below refl) c.loop-l.invariant

pub returns-else-has : goal.returns-else-has
returns-else-has c =
    let s = c.args.s.now in
    let x = c.args.x in
    let same = label-same s c.loop-l.l c.index.result.now c.index-in-There.result.now (get-item s.labels.items c.loop-l.l c.index.result.now (omega (arith, s.labels.ok.0)) c.index.ensures) (get-item s.labels.items c.loop-l.l c.index-in-There.result.now (omega (arith, s.labels.ok.0)) c.index-in-There.ensures) in
    let listed : c.deref.result.now ≡ c.index.result.now.params.items = c.deref.ensures.value ∙ ap (λ (l : SsuLabel). l.params.items) (sym same) in
    or-else (is_in x c.index.result.now.params.items) c.in-There.below c.has.result (c.has.ensures ∙ ap (is_in x) listed) c.if-has.false
    ∙ node-above s c.args.k c.loop-l.l c.loop-l.left (c.loop-l.left - 1) x c.index.result.now c.in-There.below (get-item s.labels.items c.loop-l.l c.index.result.now (omega (arith, s.labels.ok.0)) c.index.ensures) (omega (arith, c.if-left-eq0.false)) (c.in-There.ensures.there c.in-There.below refl) c.loop-l.invariant

pub loop-l-preserved : goal.loop-l-preserved
loop-l-preserved c =
    let s = c.args.s.now in
    label-passed s c.args.k c.loop-l.l c.loop-l.left (c.loop-l.left - 1) c.in-Past.m c.index.result.now (get-item s.labels.items c.loop-l.l c.index.result.now (omega (arith, s.labels.ok.0)) c.index.ensures) (omega (arith, c.if-left-eq0.false)) (c.in-Past.ensures.past c.in-Past.m refl) c.loop-l.invariant

pub returns : goal.returns
returns c = none-above c.args.s.now c.args.k c.loop-l.l c.loop-l.left c.args.x (omega (arith, c.args.s.now.labels.ok.0)) c.loop-l.invariant
