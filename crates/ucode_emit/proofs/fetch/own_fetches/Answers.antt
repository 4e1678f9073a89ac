use Rattle.std.proofs.Common.{arith}
use Rattle.ucode_emit.specs.inner.DraftItems as drafts
use Rattle.ucode_emit.proofs.Turns.{turn, fetches_last}
use Rattle.ucode_emit.proofs.fetch.own_fetches.Goals as goal

pub loop-serve-preserved : goal.loop-serve-preserved
loop-serve-preserved c =
    turn (drafts.each_fetch (drafts.own_fetch c.args.l)) (drafts.own_fetch c.args.l) (fetches_last (drafts.own_fetch c.args.l)) c.args.serves.now c.loop-serve.serve-index _ c.args.moves.now.items c.loop-serve.moves.items c.own_fetch.new.moves.items (omega arith) c.in_ok-own_fetch.ensures c.loop-serve.invariant
