use Rattle.uc_peep_facts.specs.Facts.{known}
use Rattle.uc_peep_facts.proofs.Standing.{given-tested, gives-with}
use Rattle.uc_peep_facts.proofs.flow.add_tested.Goals as goal

pub returns-in-Some-operand_of : goal.returns-in-Some-operand_of
returns-in-Some-operand_of c =
    gives-with c.args.i.now (known c.args.before.now) (known c.args.after.now) (known c.push.new.self) _ c.requires.so_far
    (given-tested c.args.i.now (known c.args.before.now) c.in-Some.d c.in-Some-operand_of.x c.in-Some.ensures.some c.in-Some-operand_of.ensures) c.push.ensures
