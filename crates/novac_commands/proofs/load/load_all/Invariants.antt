use Rattle.std.proofs.Common.{take}
use Rattle.novac_words.specs.inner.Read.{inputs_as}
use Rattle.novac_commands.specs.inner.Contents.{contents_of}
use Rattle.novac_commands.proofs.Loads.{HasLoaded}
use Rattle.novac_commands.proofs.load.load_all.Given as goal

abbrev pub invariant-loop-input : goal.invariant-loop-input
invariant-loop-input g l =
    HasLoaded g.F.Files.tells g.F.Files.held g.F.Files.history g.F.Files.load_faults g.F.Files.save_faults l.fn.files l.files (inputs_as (take l.input-index l.inputs)) (contents_of l.contents.items)
