-- Which loads and saves a command makes.
use Rattle.std.specs.Prelude.{List, ◌++◌, map}
use Rattle.nv_outside.specs.Calls.{Call, Save}
use Rattle.novac_words.specs.Command.{Command, outputs_of}
use Rattle.novac_commands.specs.Loading.{inputs_of, loads_of}

-- a load of each of its inputs, in the order of the words, and then a save of each of its outputs
abbrev pub calls_of : Command → List Call
calls_of command = loads_of (inputs_of command) ++ map (λ name. Save name) (outputs_of command)
