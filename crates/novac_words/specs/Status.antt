-- The statuses that a run of the program ends with.
use Rattle.std.specs.Prelude.{ℕ}
use Rattle.nv_base.specs.declared.outcome.Outcome.{Outcome}
use Rattle.nv_base.specs.declared.outcome.Outcome.TheVariants as outcome
use Rattle.novac_words.specs.declared.status.Status.{Status}
use Rattle.novac_words.specs.declared.status.Status.TheVariants.{Done, Usage, ReadFault, WriteFault, NoMemory, Syntax, TypeFault, TooLarge, Infeasible, BudgetSpent, StoreFull, BadObject, BadMemoryText, Raised, Fault, StepsSpent, CertificateRefused, Unlawful, BadWeights, BadSchedule, Disagrees}

-- the numbers of the statuses
abbrev pub status_number : Status → ℕ
status_number Done = 0
status_number Usage = 2
status_number ReadFault = 3
status_number WriteFault = 4
status_number NoMemory = 5
status_number Syntax = 6
status_number TypeFault = 7
status_number TooLarge = 8
status_number Infeasible = 9
status_number BudgetSpent = 10
status_number StoreFull = 11
status_number BadObject = 12
status_number BadMemoryText = 13
status_number Raised = 14
status_number Fault = 15
status_number StepsSpent = 16
status_number CertificateRefused = 17
status_number Unlawful = 18
status_number BadWeights = 21
status_number BadSchedule = 22
status_number Disagrees = 23

-- the status of a run of the engine, or of a program, by how it ended
abbrev pub outcome_status : Outcome → Status
outcome_status (outcome.Ended words) = Done
outcome_status (outcome.Raised number words) = Raised
outcome_status (outcome.Fault mem at) = Fault
outcome_status outcome.Going = StepsSpent

-- the statuses with which a command may have saved files
abbrev pub MaySave : Status → Type 0
MaySave Done = Unit {0}
MaySave WriteFault = Unit {0}
MaySave Infeasible = Unit {0}
MaySave BudgetSpent = Unit {0}
MaySave Raised = Unit {0}
MaySave Fault = Unit {0}
MaySave StepsSpent = Unit {0}
MaySave _ = ⊥
