use Rattle.std.proofs.Common.{◌≡◌, ◌-◌, refl, subst, arith}
use Rattle.ssu_liveness.specs.declared.point_ids.PointId.TheVariants.{Node as NodeSpot}
use Rattle.place_ir_checks.specs.inner.NodeLookups.{IsIdOfPointAt}
use Rattle.place_ir_checks.proofs.Walked.{get-item, body-has, entry-there, node-found, label-passed, none-left}
use Rattle.place_ir_checks.proofs.points.point_id_at.Goals as goal

pub returns-then-left-eq0-clause-some : goal.returns-then-left-eq0-clause-some
returns-then-left-eq0-clause-some c = λ x e. entry-there c.args.s.now c.args.k c.loop-l.l c.loop-l.left x (omega (arith, c.args.s.now.labels.ok.0)) c.if-left-eq0.true (cc) c.loop-l.invariant

pub node_under-requires : goal.node_under-requires
node_under-requires c = body-has c.args.s.now c.loop-l.l c.index.result.now (get-item c.args.s.now.labels.items c.loop-l.l c.index.result.now (omega (arith, c.args.s.now.labels.ok.0)) c.index.ensures)

pub returns-in-Here-clause-some : goal.returns-in-Here-clause-some
returns-in-Here-clause-some c = λ x e.
    let same : NodeSpot c.in-Here.id ≡ x = cc in
    let s = c.args.s.now in
    subst (IsIdOfPointAt s c.args.k) same
    (node-found s c.args.k c.loop-l.l c.loop-l.left (c.loop-l.left - 1) c.in-Here.id.0 c.index.result.now c.in-Here.id
    (get-item s.labels.items c.loop-l.l c.index.result.now (omega (arith, s.labels.ok.0)) c.index.ensures) (omega (arith, c.if-left-eq0.false)) refl (c.in-Here.ensures.here c.in-Here.id refl) c.loop-l.invariant)

pub loop-l-preserved : goal.loop-l-preserved
loop-l-preserved c =
    let s = c.args.s.now in
    label-passed s c.args.k c.loop-l.l c.loop-l.left (c.loop-l.left - 1) c.in-Past.m c.index.result.now
    (get-item s.labels.items c.loop-l.l c.index.result.now (omega (arith, s.labels.ok.0)) c.index.ensures) (omega (arith, c.if-left-eq0.false)) (c.in-Past.ensures.past c.in-Past.m refl) c.loop-l.invariant

pub returns-clause-none : goal.returns-clause-none
returns-clause-none c = λ e. none-left c.args.s.now c.args.k c.loop-l.l c.loop-l.left (omega (arith, c.args.s.now.labels.ok.0)) c.loop-l.invariant
