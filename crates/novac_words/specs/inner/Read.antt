-- The files that a command reads, as the code has them.
use Rattle.std.specs.Prelude.{List, map}
use Rattle.novac_words.specs.Inputs.{Input, input}
use Rattle.novac_words.specs.declared.input.Input.{Input as Named}

-- an input without where its name lies
abbrev pub input_as : Named → Input
input_as i = input i.name.now i.limit

abbrev pub inputs_as : List Named → List Input
inputs_as inputs = map input_as inputs
