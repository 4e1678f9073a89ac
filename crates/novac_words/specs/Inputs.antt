-- The files that a command reads, in the order of the words.
use Rattle.std.specs.Prelude.{ℕ, List, [], ◌∷◌, Option, Some, None}
use Rattle.novac_words.specs.Command.{Command, Compile, Run, Exec, Asm, Dis, Lint, Check, Gen, Contexts, Peep, Trace, Counts}
use Rattle.novac_words.specs.Limits.{source_limit, object_limit, memory_limit, assembly_limit, report_limit, schedule_limit, weights_limit}

-- a file that is read, and how many bytes it may have
pub record Input : Type 0 where
  pub name : List ℕ
  pub limit : ℕ

abbrev pub input : List ℕ → ℕ → Input
input name limit = record { name = name; limit = limit }

-- the file of weights, where one is named
abbrev pub weights_input : Option (List ℕ) → List Input
weights_input None = []
weights_input (Some name) = input name weights_limit ∷ []

-- the inputs of a command
abbrev pub inputs_of : Command → List Input
inputs_of (Compile source object report slots budget store weights) = input source source_limit ∷ weights_input weights
inputs_of (Run object memory steps) = input object object_limit ∷ input memory memory_limit ∷ []
inputs_of (Exec source memory calls) = input source source_limit ∷ input memory memory_limit ∷ []
inputs_of (Asm text object) = input text assembly_limit ∷ []
inputs_of (Dis object) = input object object_limit ∷ []
inputs_of (Lint object) = input object object_limit ∷ []
inputs_of (Check report) = input report report_limit ∷ []
inputs_of (Gen seed size) = []
inputs_of (Contexts object memory schedule) = input object object_limit ∷ input memory memory_limit ∷ input schedule schedule_limit ∷ []
inputs_of (Peep object output) = input object object_limit ∷ []
inputs_of (Trace source object memory steps calls line) = input source source_limit ∷ input object object_limit ∷ input memory memory_limit ∷ []
inputs_of (Counts source memory output jumps) = input source source_limit ∷ input memory memory_limit ∷ []
