-- The answers of `read_schedule`: memory exhaustion is an answer to any bytes.
use Rattle.std.specs.Prelude.{◌≡◌, ℕ, List, Result, Ok, Err}
use Rattle.uc_schedule.specs.declared.read.Schedule.{Schedule}
use Rattle.uc_schedule.specs.declared.read.ScheduleError.{ScheduleError}
use Rattle.uc_schedule.specs.declared.read.ScheduleError.TheVariants.{NoMemory, Bad}
use Rattle.uc_schedule.specs.ScheduleText.{IsBad}

-- each refusal is true of the bytes
abbrev pub IsTrueError : ℕ → List ℕ → ScheduleError → Type 0
IsTrueError params bytes NoMemory = Unit {0}
IsTrueError params bytes (Bad n) = IsBad params bytes n

-- these arguments and entries, or memory exhaustion
abbrev pub AnswersSchedule : Result Schedule ScheduleError → List (List ℕ) → List (ℕ × ℕ) → Type 0
AnswersSchedule (Ok s) args entries = (s.args.items ≡ args) × (s.entries.items ≡ entries)
AnswersSchedule (Err NoMemory) args entries = Unit {0}
AnswersSchedule (Err (Bad n)) args entries = ⊥

-- a fault of line n, or memory exhaustion
abbrev pub AnswersBad : Result Schedule ScheduleError → ℕ → Type 0
AnswersBad (Ok s) n = ⊥
AnswersBad (Err NoMemory) n = Unit {0}
AnswersBad (Err (Bad m)) n = m ≡ n
