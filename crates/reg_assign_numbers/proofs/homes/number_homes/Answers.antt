use Rattle.zo_model.specs.Program.{vector}
use Rattle.bank_prog.proofs.LawsColumns.{on-there}
use Rattle.reg_assign_reading.specs.declared.numbers.BankNumbers.{BankNumbers}
use Rattle.reg_assign_reading.specs.inner.Facts.{Facts}
use Rattle.reg_assign_reading.specs.inner.Reading.{says, labels_of}
use Rattle.reg_assign_reading.proofs.FactsAll.{facts}
use Rattle.reg_assign_reading.proofs.Numbered.{are-numbered, room-a, room-b, room-m}
use Rattle.reg_assign_numbers.proofs.homes.number_homes.Goals as goal

pub returns : goal.returns
returns c = λ slots few rows.
    let labels = labels_of c.args.r.now in
    let on = says c.args.r.now in
    let n : BankNumbers = record { a = c.in_ok-a.a; b = c.in_ok-b.b; m = c.in_ok-m.m } in
    let f : Facts labels slots on = facts labels slots on c.requires (λ k e. on-there labels (vector c.args.r.now.x.now.on.items) k e) rows in
    are-numbered labels slots on n c.requires few
    (c.in_ok-a.ensures (room-a labels slots on f), (c.in_ok-b.ensures (room-b labels slots on f), c.in_ok-m.ensures slots (room-m labels slots on f)))
