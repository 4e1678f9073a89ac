use Rattle.std.proofs.Common.{◌∙◌, ◌≡◌, sym, ap, ◌+◌, length}
use Rattle.ssu_ir.proofs.Sizes.{entries_more, entries_all}
use Rattle.ssu_ir.proofs.measure.entries_size.Goals as goal

pub loop-l-preserved : goal.loop-l-preserved
loop-l-preserved c =
    let one : c.in_ok-sum.field-0 ≡ 1 + length c.l-item.result.params.items = c.in_ok-sum.ensures ∙ ap (λ n. 1 + n) (c.len.ensures ∙ c.l-item.result.params.ok.0) in
    c.in_ok-total.ensures
    ∙ ap (λ n. c.loop-l.total + n) one
    ∙ ap (λ n. n + (1 + length c.l-item.result.params.items)) c.loop-l.invariant
    ∙ sym (entries_more c.args.s.now.labels.items _ _ _ c.deref-l-items.ensures.value c.loop-l-test.true c.l-item.is)

pub returns : goal.returns
returns c = entries_all c.args.s.now.labels.items _ _ _ c.deref-l-items.ensures.value c.loop-l-test.false c.loop-l.invariant
