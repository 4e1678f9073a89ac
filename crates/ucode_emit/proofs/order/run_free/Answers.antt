use Rattle.std.proofs.Common.{get_or, arith}
use Rattle.std.proofs.lemmas.List.{get_or_default}
use Rattle.place_plan.specs.declared.place.Place.TheVariants.{A}
use Rattle.ucode_emit.proofs.Loops.{freeing-more, freeing-end}
use Rattle.ucode_emit.proofs.order.run_free.Goals as goal

pub loop-m-preserved : goal.loop-m-preserved
loop-m-preserved c =
    let ms = c.args.moves.now in
    let i = c.loop-m.m-index in
    let m = get_or ms i (A 0, A 0) in
    freeing-more ms i m c.loop-m.pending c.run.new.self (omega arith) (get_or_default ms i (A 0, A 0) m (omega arith)) c.requires.targets c.loop-m.invariant c.in_ok-run.ensures.counted c.in_ok-run.ensures.ran c.in_ok-run.ensures.free

pub returns-clause-stuck : goal.returns-clause-stuck
returns-clause-stuck c = freeing-end c.args.moves.now c.loop-m.m-index c.loop-m.pending (omega arith) c.loop-m.invariant
