use Rattle.std.proofs.Common.{arith}
use Rattle.ucode_emit.specs.inner.DraftItems as drafts
use Rattle.ucode_emit.proofs.Turns.{turn, fetches_last}
use Rattle.ucode_emit.proofs.fetch.slot_fetches.Goals as goal

pub loop-serve-preserved : goal.loop-serve-preserved
loop-serve-preserved c =
    turn (drafts.each_fetch drafts.slot_fetch) drafts.slot_fetch (fetches_last drafts.slot_fetch) c.args.serves.now c.loop-serve.serve-index _ c.args.moves.now.items c.loop-serve.moves.items c.slot_fetch.new.moves.items (omega arith) c.in_ok-slot_fetch.ensures c.loop-serve.invariant
