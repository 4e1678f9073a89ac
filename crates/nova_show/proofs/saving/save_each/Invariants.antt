use Rattle.std.proofs.Common.{take}
use Rattle.nova_show.proofs.Saves.{HasSaved}
use Rattle.nova_show.proofs.saving.save_each.Given as goal

abbrev pub invariant-loop-saving : goal.invariant-loop-saving
invariant-loop-saving g l =
    HasSaved g.F.Files.tells g.K.Sink.tells g.F.Files.held g.F.Files.history g.F.Files.save_faults g.K.Sink.written g.K.Sink.faults l.fn.files l.files l.fn.out l.out (take l.saving-index l.savings)
