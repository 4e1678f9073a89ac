use Rattle.reg_assign_reading.specs.declared.reading.Reading.{Reading}
use Rattle.reg_assign.proofs.Promised.{assigned}
use Rattle.reg_assign.proofs.assigned.assign_by.Goals as goal

pub returns : goal.returns
returns c =
    let r : Reading = record { bank = c.args.bank; x = c.args.x } in
    assigned c.args.slots r c.in_ok-numbers.numbers c.in_ok-given.given c.placed.result c.in_ok-given.ensures.reading c.in_ok-given.ensures.numbers c.requires.single c.requires.slots c.requires.feasible c.in_ok-numbers.ensures c.placed.ensures
