use Rattle.std.proofs.Common.{◌≡◌, ◌∙◌, sym, slice_get, Some}
use Rattle.std.proofs.lemmas.Bool.{false≢true}
use Rattle.uc_contexts.proofs.Sharing.{Other, mark-at, none-next, no-other}
use Rattle.uc_contexts.proofs.compare.is_marked_by_other.Goals as goal
use Rattle.uc_contexts.proofs.compare.is_marked_by_other.Goals.{else-number-writer-via-then-number-writer+else-is_marked, else-number-writer-via-else-number-writer}

pub loop-number-preserved : goal.loop-number-preserved
loop-number-preserved c =
    let P = Other c.args.writer c.args.m c.args.a in
    let f = c.index-footprints-number.result in
    let at : slice_get c.args.footprints.now c.loop-number.number ≡ Some f = mark-at c.args.footprints.now c.loop-number.number f c.loop-number-test.true c.index-footprints-number.is in
    let unmarked : P c.loop-number.number f → ⊥ = elim c.else-number-writer.branch [
      | else-number-writer-via-then-number-writer+else-is_marked w ↦ (λ o. false≢true (sym w.if-is_marked.false ∙ w.is_marked.ensures.1 o.1))
      | else-number-writer-via-else-number-writer w ↦ (λ o. o.0 (sym w.if-number-writer.false))
    ] in
    none-next P c.args.footprints.now c.loop-number.number f at c.loop-number.invariant unmarked

pub returns : goal.returns
returns c = (
  λ is. absurd (false≢true is),
  λ o. absurd (no-other c.args.footprints.now c.args.writer c.args.m c.args.a c.loop-number.number c.loop-number-test.false c.loop-number.invariant o),
)
