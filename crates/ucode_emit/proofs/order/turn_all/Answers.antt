use Rattle.std.proofs.Common.{◌+◌, ◌∙◌, get_or, subst, sym, arith}
use Rattle.std.proofs.lemmas.List.{get_or_default}
use Rattle.place_plan.specs.declared.place.Place.TheVariants.{A}
use Rattle.ucode_emit.specs.declared.pending.Pending.{Pending}
use Rattle.ucode_emit.proofs.Loops.{Turning, turning-past, turning-more, turning-end, spared}
use Rattle.ucode_emit.proofs.order.turn_all.Goals as goal
use Rattle.ucode_emit.proofs.order.turn_all.Goals.{in-Some+in_ok-turn, in_default}

pub turn-requires-clause-spare : goal.turn-requires-clause-spare
turn-requires-clause-spare c = spared c.args.moves.now c.loop-m.m-index c.loop-m.pending c.requires.spare c.loop-m.invariant

pub loop-m-preserved : goal.loop-m-preserved
loop-m-preserved c =
    let ms = c.args.moves.now in
    let i = c.loop-m.m-index in
    let m = get_or ms i (A 0, A 0) in
    elim c.match-source.branch [
      | in-Some+in_ok-turn w ↦
          subst (λ (p : Pending). Turning ms (i + 1) p) (sym w.pending-is)
          (turning-more ms i m c.loop-m.pending w.turn.new.self (omega arith) (get_or_default ms i (A 0, A 0) m (omega arith)) c.requires.targets c.loop-m.invariant w.in_ok-turn.ensures.counted w.in_ok-turn.ensures.turned)
      | in_default w ↦
          subst (λ (p : Pending). Turning ms (i + 1) p) (sym w.pending-is)
          (turning-past ms i m c.loop-m.pending (omega arith) (get_or_default ms i (A 0, A 0) m (omega arith)) c.loop-m.invariant (sym c.source.ensures ∙ w.in_default.is))
    ]

pub returns-clause-nothing : goal.returns-clause-nothing
returns-clause-nothing c = turning-end c.args.moves.now c.loop-m.m-index c.loop-m.pending (omega arith) c.loop-m.invariant
