use Rattle.uc_peep_facts.specs.Facts.{known}
use Rattle.uc_peep_facts.proofs.SameWords.{reread-un}
use Rattle.uc_peep_facts.proofs.reread.reread_un.Goals as goal

pub returns : goal.returns
returns c = reread-un (known c.args.facts.now) c.args.d.now c.args.op.now c.args.x.now c.operand_for-from.result c.requires c.operand_for-from.ensures.same c.operand_for-from.ensures.reads
