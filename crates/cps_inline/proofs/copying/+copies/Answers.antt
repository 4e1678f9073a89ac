use Rattle.std.proofs.Common.{◌≡◌, ◌+◌, map, drop, length, refl, sym, ap, ◌∙◌, arith}
use Rattle.std.proofs.lemmas.List.{drop_all}
use Rattle.std.proofs.lemmas.Option.{slice_get_read}
use Rattle.std.proofs.lemmas.Result.{IfOk-weaker}
use Rattle.cps_ir.proofs.Views.{view-Cont}
use Rattle.cps_ir.specs.Meaning.{handler_of}
use Rattle.cps_ir.specs.Spine.{put_all}
use Rattle.cps_ir.specs.Term as cps
use Rattle.cps_ir.specs.View.{term_view, labels_view, fun_view}
use Rattle.cps_inline.specs.inner.Inlined.{moved, moved_atom, moved_atoms, return_term, copy_at, counts, group_count}
use Rattle.cps_inline.proofs.Seen.{view-Throw, seen-If, seen-Fix, seen-one, many-labels}
use Rattle.cps_inline.proofs.Along.{label-within, function-within, item_next, in_next, in_end, copies_take, copies_pass, copies_end, on_if, on_one, on_several, on_end, call-counted, call-entered, body-at}
use Rattle.cps_inline.proofs.copying.+copies.Goals as goal
use Rattle.cps_inline.proofs.copying.+copies.Goals.{copy_group-then-is_copied+in_ok-number+in_ok-copy_function+in_ok-push, copy_group-else-is_copied}

pub copy_call-returns-in-None-clause-term : goal.copy_call-returns-in-None-clause-term
copy_call-returns-in-None-clause-term t c =
    IfOk-weaker c.return_to.result _ _
    (λ u e. e ∙ ap (λ l. cps.Jump l (moved_atoms c.args.site.now.base c.args.bs.now)) c.in_ok-moved-in-None.ensures
    ∙ ap (λ k. copy_at c.args.site.now.funs.now c.args.site.now.place.now c.args.site.now.base (cps.Call c.args.i c.args.bs.now k c.args.hs.now) c.args.fresh.now) (sym c.in-None.is)) c.return_to.ensures

pub copy_call-returns-in_ok-words-in-Some-get-clause-count : goal.copy_call-returns-in_ok-words-in-Some-get-clause-count
copy_call-returns-in_ok-words-in-Some-get-clause-count t c =
    let there = slice_get_read c.args.site.now.funs.now (length c.args.site.now.funs.now) c.args.i c.in-Some-get.f.now refl c.in-Some-get.ensures.lookup.3.0 c.in-Some-get.ensures.lookup.1 in
    let group = c.in_ok-inner-in-Some-get.ensures.group in
    let same = ap (λ g. group_count (map fun_view c.args.site.now.funs.now) (counts (map fun_view c.args.site.now.funs.now) g) (fun_view c.in-Some-get.f.now)) group ∙ sym (call-counted c.args.site.now.funs.now c.args.site.now.place.now.group c.args.i c.in-Some.k c.in-Some-get.f.now c.args.bs.now c.args.to c.args.hs.now there c.in-Some.is c.if-f-site.false) in
    IfOk-weaker c.enter.result _ _ (λ u e. e ∙ ap (λ k. c.args.fresh.now + k) same) c.enter.ensures.count

pub copy_call-returns-in_ok-words-in-Some-get-clause-term : goal.copy_call-returns-in_ok-words-in-Some-get-clause-term
copy_call-returns-in_ok-words-in-Some-get-clause-term t c =
    let there = slice_get_read c.args.site.now.funs.now (length c.args.site.now.funs.now) c.args.i c.in-Some-get.f.now refl c.in-Some-get.ensures.lookup.3.0 c.in-Some-get.ensures.lookup.1 in
    let same = call-entered c.args.site.now.funs.now c.args.site.now.place.now c.in_ok-inner-in-Some-get.inner c.args.site.now.base c.args.i c.in-Some.k c.in-Some-get.f.now c.args.bs.now c.args.to c.args.hs.now c.in_ok-words-in-Some-get.words.items c.args.fresh.now there c.in-Some.is c.if-f-site.false c.in_ok-inner-in-Some-get.ensures.group c.in_ok-inner-in-Some-get.ensures.view c.in_ok-words-in-Some-get.ensures in
    IfOk-weaker c.enter.result _ _ (λ u e. e ∙ same) c.enter.ensures.term

pub copy_function-returns-clause-count : goal.copy_function-returns-clause-count
copy_function-returns-clause-count t c = omega (arith, c.in_ok-body.ensures.count, c.in_ok-base.ensures.next, c.in_ok-span.ensures)

pub copy_function-returns-clause-body : goal.copy_function-returns-clause-body
copy_function-returns-clause-body t c =
    let e = body-at c.args.funs.now c.args.place.now c.args.g.now c.in_ok-body.body c.args.fresh.now c.in_ok-base.base c.take.new.fresh c.in_ok-span.field-0 c.in_ok-body.ensures.term c.in_ok-base.ensures.first c.in_ok-base.ensures.next c.in_ok-span.ensures in
    ap (λ s. s.body) (view-Cont _) ∙ e

pub copy_group-copy_function-requires : goal.copy_group-copy_function-requires
copy_group-copy_function-requires t c = (omega (arith, c.decreases, function-within c.args.funs.now c.loop-j.j c.index-funs-j.result c.loop-j-test.true c.index-funs-j.is), tt)

pub copy_group-loop-j-preserved : goal.copy_group-loop-j-preserved
copy_group-loop-j-preserved t c =
    elim c.if-is_copied.branch [
      | copy_group-then-is_copied+in_ok-number+in_ok-copy_function+in_ok-push w ↦
          let e = item_next c.args.funs.now c.loop-j.j c.index-funs-j.result c.loop-j-test.true c.index-funs-j.is in
          copies_take c.index-funs-j.result w.in_ok-copy_function.field-0 (drop (c.loop-j.j + 1) c.args.funs.now) _ (c.loop-j.j + 1) _ c.loop-j.invariant e (sym c.is_copied.ensures ∙ w.if-is_copied.true) refl (ap (λ v. v.items) w.v-is ∙ w.in_ok-push.ensures.items) (w.fresh-is ∙ w.in_ok-copy_function.ensures.count)
          (w.in_ok-copy_function.ensures.label ∙ ap (λ x. c.args.place.now.first + x) w.in_ok-number.ensures) w.in_ok-copy_function.ensures.params w.in_ok-copy_function.ensures.body
      | copy_group-else-is_copied w ↦
          let e = item_next c.args.funs.now c.loop-j.j c.index-funs-j.result c.loop-j-test.true c.index-funs-j.is in
          copies_pass c.index-funs-j.result (drop (c.loop-j.j + 1) c.args.funs.now) _ (c.loop-j.j + 1) _ c.loop-j.invariant e (sym c.is_copied.ensures ∙ w.if-is_copied.false) refl (ap (λ v. v.items) w.v-is) w.fresh-is
    ]

pub copy_group-returns-clause-labels : goal.copy_group-returns-clause-labels
copy_group-returns-clause-labels t c = copies_end c.loop-j.invariant (drop_all c.loop-j.j c.args.funs.now c.loop-j-test.false)

pub copy_labels-copy_label-requires : goal.copy_labels-copy_label-requires
copy_labels-copy_label-requires t c = (omega (arith, c.decreases, label-within c.args.conts.now c.loop-c.c-index c.c-item.result c.loop-c-test.true c.c-item.is), tt)

pub copy_labels-loop-c-preserved : goal.copy_labels-loop-c-preserved
copy_labels-loop-c-preserved t c =
    let e = item_next c.args.conts.now c.loop-c.c-index c.c-item.result c.loop-c-test.true c.c-item.is in
    in_next c.c-item.result c.in_ok-copy_label.field-0 (drop (c.loop-c.c-index + 1) c.args.conts.now) _ _ c.loop-c.invariant e c.in_ok-push.ensures.items c.in_ok-copy_label.ensures.count c.in_ok-copy_label.ensures.label c.in_ok-copy_label.ensures.params c.in_ok-copy_label.ensures.body

pub copy_labels-returns-clause-labels : goal.copy_labels-returns-clause-labels
copy_labels-returns-clause-labels t c = in_end c.loop-c.invariant (drop_all c.loop-c.c-index c.args.conts.now c.loop-c-test.false)

pub copy_first-returns-clause-step : goal.copy_first-returns-clause-step
copy_first-returns-clause-step t c = IfOk-weaker c.push_if.result _ _ (λ u adds t'. adds t' ∙ ap (λ v. put_all c.args.steps.now.items (cps.If c.args.test.0 (moved_atom c.args.site.now.base c.args.test.1) (moved_atom c.args.site.now.base c.args.test.2) v t')) c.in_ok-part.ensures.term) c.push_if.ensures

pub copy_around-returns-clause-step : goal.copy_around-returns-clause-step
copy_around-returns-clause-step t c = IfOk-weaker c.push_label.result _ _ (λ u adds t'. adds t' ∙ ap (λ v. put_all c.args.steps.now.items (cps.Fix (cps.label (c.args.site.now.base + c.args.one.now.label) (moved c.args.site.now.base c.args.one.now.params.items) t' cps.none) v)) c.in_ok-around.ensures.term) c.push_label.ensures

pub copy_several-returns-clause-step : goal.copy_several-returns-clause-step
copy_several-returns-clause-step t c = IfOk-weaker c.push_labels.result _ _ (λ u adds t'. adds t' ∙ ap (λ v. put_all c.args.steps.now.items (cps.Fix v t')) c.in_ok-labels.ensures.labels) c.push_labels.ensures

pub copy_term-returns-clause-count : goal.copy_term-returns-clause-count
copy_term-returns-clause-count t c = IfOk-weaker c.joined.result _ _ (λ u e. c.in-Ok.ensures.count) c.joined.ensures

pub copy_term-returns-clause-term : goal.copy_term-returns-clause-term
copy_term-returns-clause-term t c =
    IfOk-weaker c.joined.result _ _
    (λ u e. e ∙ c.in-Ok.ensures.term ∙ ap (λ l. put_all l (copy_at c.args.site.now.funs.now c.args.site.now.place.now c.args.site.now.base (term_view c.args.t.now) c.args.fresh.now)) c.new-steps.ensures.items) c.joined.ensures

pub copy_steps-returns-in-Throw-clause-term : goal.copy_steps-returns-in-Throw-clause-term
copy_steps-returns-in-Throw-clause-term t c =
    on_end (cps.Throw c.in-Throw.e c.in-Throw.bs.items) c.in_ok-end-in-Throw.end c.spine.invariant (ap term_view c.in-Throw.is ∙ view-Throw c.in-Throw.e c.in-Throw.bs)
    (c.in_ok-end-in-Throw.ensures ∙ ap (λ k. return_term k c.in-Throw.e (moved_atoms c.args.site.now.base c.deref-in-Throw-2.result.now)) (c.find_handler-to.ensures ∙ ap (handler_of c.in-Throw.e) c.deref-in-Throw.ensures.value)
    ∙ ap (λ l. return_term (handler_of c.in-Throw.e c.args.site.now.place.now.handlers.items) c.in-Throw.e (moved_atoms c.args.site.now.base l)) c.deref-in-Throw-2.ensures)

pub copy_steps-spine-preserved-in-If : goal.copy_steps-spine-preserved-in-If
copy_steps-spine-preserved-in-If t c =
    on_if c.in-If.c c.in-If.a c.in-If.b c.deref-in-If.result.now c.deref-cur-in-If.result.now _ _ c.spine.invariant
    (seen-If c.spine.cur.now c.in-If.c c.in-If.a c.in-If.b c.in-If.first c.in-If.second c.deref-in-If.result.now c.deref-cur-in-If.result.now c.in-If.is c.deref-in-If.ensures c.deref-cur-in-If.ensures)
    c.in_ok-copy_first-in-If.ensures.step c.in_ok-copy_first-in-If.ensures.count

pub copy_steps-spine-preserved-in-Some : goal.copy_steps-spine-preserved-in-Some
copy_steps-spine-preserved-in-Some t c =
    on_one c.in-Some.one.now.label c.in-Some.one.now.params.items c.deref-in-Some.result.now c.in-Some.one.now.body _ _ c.spine.invariant
    (seen-one c.spine.cur.now c.in-Fix.conts c.in-Fix.rest c.deref-in-Fix.result.now c.in-Some.one.now c.deref-in-Some.result.now c.in-Fix.is c.deref-in-Fix.ensures.value c.deref-in-Some.ensures c.in-Some.ensures)
    c.in_ok-copy_around-in-Some.ensures.step c.in_ok-copy_around-in-Some.ensures.count

pub copy_steps-spine-preserved : goal.copy_steps-spine-preserved
copy_steps-spine-preserved t c =
    let same : c.deref-in-None.result.now ≡ c.deref-in-Fix.result.now = c.deref-in-None.ensures.value ∙ sym c.deref-in-Fix.ensures.value in
    on_several (labels_view c.deref-in-None.result.now) c.deref-cur-in-None.result.now _ _ c.spine.invariant
    (seen-Fix c.spine.cur.now c.in-Fix.conts c.in-Fix.rest c.deref-in-None.result.now c.deref-cur-in-None.result.now c.in-Fix.is c.deref-in-None.ensures.value c.deref-cur-in-None.ensures)
    (many-labels c.deref-in-None.result.now (λ e. c.in-None.ensures (ap length (sym same) ∙ e))) c.in_ok-copy_several-in-None.ensures.step c.in_ok-copy_several-in-None.ensures.count
