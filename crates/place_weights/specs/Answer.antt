-- The answers of `read_weights`: memory exhaustion is an answer to any bytes.
use Rattle.std.specs.Prelude.{◌≡◌, ℕ, List, map, Result, Ok, Err}
use Rattle.place_weights.specs.declared.read.WeightsError.{WeightsError}
use Rattle.place_weights.specs.declared.read.WeightsError.TheVariants.{NoMemory, Bad}
use Rattle.place_weights.specs.WeightsText.{IsBad, clamped}

-- each refusal is true of the bytes
abbrev pub IsTrueError : List ℕ → WeightsError → Type 0
IsTrueError bytes NoMemory = Unit {0}
IsTrueError bytes (Bad n) = IsBad bytes n

-- the weights of these counts, or memory exhaustion
abbrev pub AnswersWeights : Result (List ℕ) WeightsError → List ℕ → Type 0
AnswersWeights (Ok w) counts = w ≡ map clamped counts
AnswersWeights (Err NoMemory) counts = Unit {0}
AnswersWeights (Err (Bad n)) counts = ⊥

-- a fault of line n, or memory exhaustion
abbrev pub AnswersBad : Result (List ℕ) WeightsError → ℕ → Type 0
AnswersBad (Ok w) n = ⊥
AnswersBad (Err NoMemory) n = Unit {0}
AnswersBad (Err (Bad m)) n = m ≡ n
