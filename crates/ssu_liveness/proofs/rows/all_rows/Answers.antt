use Rattle.std.proofs.Common.{nat_eq, ◌∙◌, arith}
use Rattle.std.specs.HashMap.{get}
use Rattle.ssu_ir.specs.View.{labels_view}
use Rattle.ssu_liveness.specs.LiveRows.{items_of}
use Rattle.ssu_liveness.specs.inner.Live.{value_by, labels_rows}
use Rattle.ssu_liveness.proofs.Kept.{kept-more, labels-end}
use Rattle.ssu_liveness.proofs.rows.all_rows.Goals as goal

pub loop-k-preserved : goal.loop-k-preserved
loop-k-preserved c =
    let s = c.args.s.now in
    let of = value_by (get nat_eq c.args.copies.now) in
    kept-more s of c.loop-k.k c.index.result.now c.loop-k.rows.items c.push.new.self.items c.unstack.new.rows.items c.in_ok-copied.field-0 c.in_ok-stack.stack.items (labels_rows of (labels_view s))
    (omega (arith, s.labels.ok.0)) c.index.ensures (c.in_ok-copied.ensures ∙ c.deref.ensures.value) c.in_ok-push.ensures.items c.in_ok-stack.ensures c.in_ok-unstack.ensures c.loop-k.invariant

pub returns : goal.returns
returns c =
    let s = c.args.s.now in
    let of = value_by (get nat_eq c.args.copies.now) in
    labels-end s of c.loop-k.k (items_of c.loop-k.rows.items) (labels_rows of (labels_view s)) (omega (arith, s.labels.ok.0)) c.loop-k.invariant
