use Rattle.std.proofs.Common.{◌∙◌, sym}
use Rattle.ucode_emit.proofs.Starts.{effect-at-end, moves-at-end, others-keep}
use Rattle.ucode_emit.proofs.order.sequence.Goals as goal

pub returns-clause-effect : goal.returns-clause-effect
returns-clause-effect c = λ e q n.
    effect-at-end c.args.moves.now c.turn_all.new.pending.sources.items c.turn_all.new.pending.done.items c.in_ok-turn_all.ensures.stands c.in_ok-turn_all.ensures.nothing e q n

pub returns-clause-kept : goal.returns-clause-kept
returns-clause-kept c = λ e q n h.
    effect-at-end c.args.moves.now c.turn_all.new.pending.sources.items c.turn_all.new.pending.done.items c.in_ok-turn_all.ensures.stands c.in_ok-turn_all.ensures.nothing e q n
    ∙ others-keep c.args.moves.now e q (λ j d l same. h j d l (sym same))

pub returns-clause-moves : goal.returns-clause-moves
returns-clause-moves c = moves-at-end c.args.moves.now c.turn_all.new.pending.sources.items c.turn_all.new.pending.done.items c.in_ok-turn_all.ensures.stands c.in_ok-turn_all.ensures.nothing
