use Rattle.std.proofs.Common.{◌≡◌, ◌∙◌, sym, refl, slice_get, Some}
use Rattle.std.proofs.lemmas.Bool.{false≢true}
use Rattle.uc_contexts.proofs.Sharing.{Writer, mark-at, none-next, no-writer}
use Rattle.uc_contexts.proofs.compare.is_shared.Goals as goal
use Rattle.uc_contexts.proofs.compare.is_shared.Goals.{else-contains-via-then-contains+else-is_marked_by_other, else-contains-via-else-contains}

pub returns-then-is_marked_by_other : goal.returns-then-is_marked_by_other
returns-then-is_marked_by_other c =
    let f = c.index-footprints-number.result in
    let at : slice_get c.args.footprints.now c.loop-number.number ≡ Some f = mark-at c.args.footprints.now c.loop-number.number f c.loop-number-test.true c.index-footprints-number.is in
    (λ _. (c.loop-number.number, f, at, sym c.contains.ensures ∙ c.if-contains.true, c.is_marked_by_other.ensures.0 c.if-is_marked_by_other.true), λ _. refl)

pub loop-number-preserved : goal.loop-number-preserved
loop-number-preserved c =
    let P = Writer c.args.footprints.now c.args.m c.args.a in
    let f = c.index-footprints-number.result in
    let at : slice_get c.args.footprints.now c.loop-number.number ≡ Some f = mark-at c.args.footprints.now c.loop-number.number f c.loop-number-test.true c.index-footprints-number.is in
    let unmarked : P c.loop-number.number f → ⊥ = elim c.else-contains.branch [
      | else-contains-via-then-contains+else-is_marked_by_other w ↦ (λ o. false≢true (sym w.if-is_marked_by_other.false ∙ w.is_marked_by_other.ensures.1 o.1))
      | else-contains-via-else-contains w ↦ (λ o. false≢true (sym w.if-contains.false ∙ c.contains.ensures ∙ o.0))
    ] in
    none-next P c.args.footprints.now c.loop-number.number f at c.loop-number.invariant unmarked

pub returns : goal.returns
returns c = (
  λ is. absurd (false≢true is),
  λ s. absurd (no-writer c.args.footprints.now c.args.m c.args.a c.loop-number.number c.loop-number-test.false c.loop-number.invariant s),
)
