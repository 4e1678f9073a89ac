-- The files that a command saves, as they stand in its code.
use Rattle.std.specs.Prelude.{◌≡◌, List, [], ◌∷◌, ⊤}
use Rattle.novac_words.specs.Lines.{cannot_write}
use Rattle.novac_machine.specs.Saving.{File, file}
use Rattle.novac_machine.specs.declared.save.Output.{Output}
use Rattle.novac_machine.specs.declared.save.Outputs.{Outputs}
use Rattle.novac_machine.specs.declared.save.Outputs.TheVariants as outputs

-- the files that are saved
abbrev pub file_of : Output → File
file_of output = file output.name.now output.bytes.items

abbrev pub files_of : Outputs → List File
files_of outputs.Nothing = []
files_of (outputs.One output) = file_of output ∷ []
files_of (outputs.Two first second) = file_of first ∷ file_of second ∷ []

-- the line for a failed save names the file
abbrev pub IsTold : Output → Type 0
IsTold output = output.fault.items ≡ cannot_write output.name.now

abbrev pub AreTold : Outputs → Type 0
AreTold outputs.Nothing = ⊤
AreTold (outputs.One output) = IsTold output
AreTold (outputs.Two first second) = IsTold first × IsTold second
