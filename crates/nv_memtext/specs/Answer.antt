-- The answers of `read_memory`: memory exhaustion is an answer to any bytes.
use Rattle.std.specs.Prelude.{◌≡◌, ℕ, List, Result, Ok, Err}
use Rattle.nv_base.specs.Memories.{Memories}
use Rattle.nv_memtext.specs.declared.read.Job.{Job}
use Rattle.nv_memtext.specs.declared.read.MemError.{MemError}
use Rattle.nv_memtext.specs.declared.read.MemError.TheVariants.{NoMemory, Bad, TooLarge}
use Rattle.nv_memtext.specs.MemoryText.{IsBad, IsTooLarge}

-- each refusal is true of the bytes
abbrev pub IsTrueError : ℕ → List ℕ → MemError → Type 0
IsTrueError params bytes NoMemory = Unit {0}
IsTrueError params bytes (Bad n) = IsBad params bytes n
IsTrueError params bytes (TooLarge n) = IsTooLarge bytes n

-- these memories and arguments, or memory exhaustion
abbrev pub AnswersJob : Result Job MemError → Memories → List ℕ → Type 0
AnswersJob (Ok job) p args = (job.packet ≡ p) × (job.args ≡ args)
AnswersJob (Err NoMemory) p args = Unit {0}
AnswersJob (Err (Bad n)) p args = ⊥
AnswersJob (Err (TooLarge n)) p args = ⊥

-- a fault of line n, or memory exhaustion
abbrev pub AnswersBad : Result Job MemError → ℕ → Type 0
AnswersBad (Ok job) n = ⊥
AnswersBad (Err NoMemory) n = Unit {0}
AnswersBad (Err (Bad m)) n = m ≡ n
AnswersBad (Err (TooLarge m)) n = ⊥

-- the size n, or memory exhaustion
abbrev pub AnswersTooLarge : Result Job MemError → ℕ → Type 0
AnswersTooLarge (Ok job) n = ⊥
AnswersTooLarge (Err NoMemory) n = Unit {0}
AnswersTooLarge (Err (Bad m)) n = ⊥
AnswersTooLarge (Err (TooLarge m)) n = m ≡ n
