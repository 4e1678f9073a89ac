use Rattle.nv_memtext.proofs.PrintLemmas.{memory_more}
use Rattle.nv_memtext.proofs.print.push_memory.Goals as goal

pub loop-k-preserved : goal.loop-k-preserved
loop-k-preserved c = memory_more c.args.mem c.args.words.now c.args.out.now.items c.loop-k.out.items c.push_part.new.out.items c.loop-k.k c.loop-k.invariant c.in_ok-push_part.ensures
