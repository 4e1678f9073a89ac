use Rattle.std.proofs.Common.{◌≡◌, drop}
use Rattle.novac_machine.specs.Scheduled.{contexts_status}
use Rattle.novac_machine.proofs.contexts.status_of_all.Given as goal

abbrev pub invariant-loop-i : goal.invariant-loop-i
invariant-loop-i l = contexts_status (drop l.i l.contexts) ≡ contexts_status l.contexts
