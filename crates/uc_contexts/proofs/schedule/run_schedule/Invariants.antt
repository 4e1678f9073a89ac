use Rattle.std.proofs.Common.{drop, length}
use Rattle.uc_contexts.specs.Turns.{scheduled, entries}
use Rattle.uc_contexts.proofs.Scheduling.{Remains}
use Rattle.uc_contexts.proofs.schedule.run_schedule.Given as goal

abbrev pub invariant-loop-entry : goal.invariant-loop-entry
invariant-loop-entry l =
    Remains l.c.list (length l.fn.e) 100000000 (drop l.entry-index l.list) (record { contexts = l.e; packet = l.p }) (scheduled l.c.list (entries l.list) (record { contexts = l.fn.e; packet = l.fn.p }))
