use Rattle.std.proofs.Common.{arith}
use Rattle.ucode_emit.specs.inner.DraftItems as drafts
use Rattle.ucode_emit.proofs.Turns.{turn, fetches_last}
use Rattle.ucode_emit.proofs.fetch.words.Goals as goal

pub loop-serve-preserved : goal.loop-serve-preserved
loop-serve-preserved c =
    turn (drafts.each_fetch (drafts.word_fetch c.args.l)) (drafts.word_fetch c.args.l) (fetches_last (drafts.word_fetch c.args.l)) c.args.serves.now c.loop-serve.serve-index _ c.args.moves.now.items c.loop-serve.moves.items c.brought.new.moves.items (omega arith) c.in_ok-brought.ensures c.loop-serve.invariant
