-- What places are read off from, as pure data.
use Rattle.std.specs.Prelude.{List}
use Rattle.ssu_ir.specs.Tree.{Label}
use Rattle.bank_prog.specs.Meaning.{Chosen}
use Rattle.reg_assign.specs.declared.given.AssignmentInputs.{AssignmentInputs}
use Rattle.reg_assign_reading.specs.ReadOff.{Numbers}
use Rattle.reg_assign_reading.specs.inner.Reading.{labels_of, says, numbers_of}

abbrev pub labels_in : AssignmentInputs → List Label
labels_in g = labels_of g.reading

abbrev pub says_in : AssignmentInputs → Chosen
says_in g = says g.reading

abbrev pub numbers_in : AssignmentInputs → Numbers
numbers_in g = numbers_of g.numbers
