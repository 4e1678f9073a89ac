use Rattle.std.proofs.Common.{arith}
use Rattle.ucode_emit.proofs.Spotted.{entries_turn}
use Rattle.ucode_emit.proofs.point_ids.entries_of.Goals as goal

pub loop-k-preserved : goal.loop-k-preserved
loop-k-preserved c =
    entries_turn c.args.point_ids.now c.loop-k.k _ c.loop-k.entries.items c.push_entry.new.entries.items (omega arith) c.loop-k.invariant c.in_ok-push_entry.ensures
