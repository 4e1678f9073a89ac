use Rattle.std.proofs.Common.{◌≡◌, ◌&&◌, ◌+◌, length, map, refl, subst, sym, ap, ◌∙◌, arith}
use Rattle.std.proofs.lemmas.List.{length-map}
use Rattle.std.proofs.lemmas.Option.{slice_get_read}
use Rattle.cps_ir.specs.View.{label_view}
use Rattle.cps_close.specs.inner.View.{table_view}
use Rattle.cps_close.proofs.Steps.{Swept, swept-step, swept-all}
use Rattle.cps_close.proofs.Whole.{view-at}
use Rattle.cps_close.proofs.table.sweep.Goals as goal
use Rattle.cps_close.proofs.table.sweep.Goals.{then-same, else-same}

pub loop-i-preserved : goal.loop-i-preserved
loop-i-preserved c =
    let same : (c.loop-i.same && c.in_ok-kept.kept) ≡ c.if-same.same =
    elim c.if-same.branch [ then-same w ↦ ap (λ b. b && c.in_ok-kept.kept) w.if-same.true ∙ sym w.same-is | else-same w ↦ ap (λ b. b && c.in_ok-kept.kept) w.if-same.false ∙ sym w.if-same.false ∙ sym w.same-is ] in
    subst (λ b. Swept (map (λ d. label_view d.now) c.args.conts.now) (table_view c.settle.new.table) b (c.loop-i.i + 1)) same
    (swept-step (map (λ d. label_view d.now) c.args.conts.now) (table_view c.loop-i.table) (table_view c.settle.new.table) c.loop-i.same c.in_ok-kept.kept (label_view c.index-conts-i.result.now) c.loop-i.i
    (view-at (λ d. label_view d.now) c.args.conts.now c.loop-i.i c.index-conts-i.result (slice_get_read c.args.conts.now (length c.args.conts.now) c.loop-i.i c.index-conts-i.result refl (omega arith) c.index-conts-i.is)) c.in_ok-kept.ensures.step c.in_ok-kept.ensures.same c.loop-i.invariant)

pub returns-clause-still : goal.returns-clause-still
returns-clause-still c =
    let last : c.loop-i.i ≡ length c.args.conts.now = omega arith in
    swept-all (map (λ d. label_view d.now) c.args.conts.now) (table_view c.loop-i.table) c.loop-i.same
    (subst (λ n. Swept (map (λ d. label_view d.now) c.args.conts.now) (table_view c.loop-i.table) c.loop-i.same n) (last ∙ sym (length-map c.args.conts.now (λ d. label_view d.now))) c.loop-i.invariant)
