use Rattle.std.proofs.Common.{arith}
use Rattle.uc_peep_facts.proofs.SameWords.{untargeted-last}
use Rattle.uc_peep_facts.proofs.idle_targets.untargeted_at.Goals as goal

pub returns : goal.returns
returns c = untargeted-last _ c.args.i.now c.requires.formed (c.requires.last (let f = c.if-y-sets.false in omega arith))
