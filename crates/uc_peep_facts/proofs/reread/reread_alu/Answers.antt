use Rattle.uc_peep_facts.specs.Facts.{known}
use Rattle.uc_peep_facts.proofs.SameWords.{reread-alu}
use Rattle.uc_peep_facts.proofs.reread.reread_alu.Goals as goal

pub returns : goal.returns
returns c = reread-alu (known c.args.facts.now) c.args.d.now c.args.op.now c.args.x.now c.first_operand-first.result c.args.y.now c.second_operand-second.result c.requires c.first_operand-first.ensures.same c.second_operand-second.ensures.same c.first_operand-first.ensures.reads c.second_operand-second.ensures.reads c.second_operand-second.ensures.apart
