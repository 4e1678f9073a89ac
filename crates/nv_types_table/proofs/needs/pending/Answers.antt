use Rattle.std.proofs.Common.{◌∙◌, sym, get_or}
use Rattle.std.proofs.lemmas.Option.{slice_get-get_or, get_or_from_slice_get}
use Rattle.nv_types_table.specs.declared.needs.OpenNeed.{OpenNeed}
use Rattle.nv_types_table.proofs.BlockNeeds.{held_then, held_else}
use Rattle.nv_types_table.proofs.needs.pending.Goals as goal
use Rattle.nv_types_table.proofs.needs.pending.Goals.{then-h-place, else-h-place}

pub loop-h-preserved : goal.loop-h-preserved
loop-h-preserved c =
    let hs = c.args.held.now in
    let i = c.loop-h.h-index in
    let d : OpenNeed = record { words = 0; until = 0 } in
    let h = get_or hs i d in
    let e = sym (get_or_from_slice_get hs i h h (slice_get-get_or hs i d c.loop-h-test.true)) in
    elim c.if-h-place.branch [
      | then-h-place w ↦ held_then hs i h d c.args.place c.loop-h.words c.if-h-place.words c.loop-h-test.true e c.loop-h.invariant w.if-h-place.true (w.words-is ∙ w.saturating_add-words.ensures)
      | else-h-place w ↦ w.words-is ∙ held_else hs i h d c.args.place c.loop-h.words c.loop-h-test.true e c.loop-h.invariant w.if-h-place.false
    ]
