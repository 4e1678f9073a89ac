use Rattle.std.proofs.Common.{◌+◌, ◌∙◌, get_or, subst, sym, arith}
use Rattle.std.proofs.lemmas.List.{get_or_default}
use Rattle.place_plan.specs.declared.place.Place.TheVariants.{A}
use Rattle.ucode_emit.specs.declared.pending.Pending.{Pending}
use Rattle.ucode_emit.specs.inner.Pending.{Begun}
use Rattle.ucode_emit.proofs.Starts.{not-yet, stands-first}
use Rattle.ucode_emit.proofs.Loops.{Adding, adding-same, adding-more}
use Rattle.ucode_emit.proofs.pending.Pending.new.Goals as goal
use Rattle.ucode_emit.proofs.pending.Pending.new.Goals.{then-number, else-number}

pub add-requires-clause-first : goal.add-requires-clause-first
add-requires-clause-first c =
    let ms = c.args.moves.now in
    let i = c.loop-m.m-index in
    let m = get_or ms i (A 0, A 0) in
    not-yet ms i m c.loop-m.pending.sources.items (omega arith) (get_or_default ms i (A 0, A 0) m (omega arith)) c.requires c.loop-m.invariant.begun

pub loop-m-preserved : goal.loop-m-preserved
loop-m-preserved c =
    let ms = c.args.moves.now in
    let i = c.loop-m.m-index in
    let m = get_or ms i (A 0, A 0) in
    elim c.if-number.branch [
      | then-number w ↦
          subst (λ (p : Pending). Adding ms (i + 1) p) (sym w.pending-is)
          (adding-more ms i m c.loop-m.pending w.add.new.self (omega arith) (get_or_default ms i (A 0, A 0) m (omega arith)) c.requires c.loop-m.invariant (λ e. w.if-number.true (c.number.ensures.value ∙ e ∙ sym c.number-in-loop-m.ensures.value))
          w.add.ensures.counted w.add.ensures.sources w.add.ensures.within w.add.ensures.done)
      | else-number w ↦
          subst (λ (p : Pending). Adding ms (i + 1) p) (sym w.pending-is)
          (adding-same ms i m c.loop-m.pending (omega arith) (get_or_default ms i (A 0, A 0) m (omega arith)) c.requires c.loop-m.invariant (sym c.number.ensures.value ∙ w.if-number.false ∙ c.number-in-loop-m.ensures.value))
    ]

pub returns-clause-stands : goal.returns-clause-stands
returns-clause-stands c =
    stands-first c.args.moves.now c.loop-m.pending.sources.items c.loop-m.pending.done.items c.loop-m.invariant.nothing_done
    (subst (λ n. Begun c.args.moves.now n c.loop-m.pending.sources.items) (omega arith) c.loop-m.invariant.begun)
