-- How a command ends that isn't refused, and no save of which fails.
use Rattle.novac_words.specs.declared.status.Status.{Status}
use Rattle.novac_words.specs.declared.status.Status.TheVariants.{Done, Infeasible, BudgetSpent, Raised, Fault, StepsSpent}

-- a command that isn't refused, and no save of which fails, ends with one of these
abbrev pub IsOutcome : Status → Type 0
IsOutcome Done = Unit {0}
IsOutcome Infeasible = Unit {0}
IsOutcome BudgetSpent = Unit {0}
IsOutcome Raised = Unit {0}
IsOutcome Fault = Unit {0}
IsOutcome StepsSpent = Unit {0}
IsOutcome _ = ⊥
