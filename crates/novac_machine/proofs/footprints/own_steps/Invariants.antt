use Rattle.std.proofs.Common.{◌≡◌, ◌+◌, drop}
use Rattle.uc_contexts.specs.Alone.{own_entries}
use Rattle.uc_contexts.specs.Turns.{entries}
use Rattle.novac_machine.proofs.footprints.own_steps.Given as goal

abbrev pub invariant-loop-entry : goal.invariant-loop-entry
invariant-loop-entry l = l.steps + own_entries l.number (entries (drop l.entry-index l.entries)) ≡ own_entries l.number (entries l.entries)
