use Rattle.std.proofs.Common.{List, ℕ, sym, subst}
use Rattle.uc_contexts.specs.declared.alone.Marks.{Marks}
use Rattle.uc_contexts.specs.Alone.{lone_runs}
use Rattle.uc_contexts.specs.Footprints.{Isolated}
use Rattle.uc_contexts.specs.Marked.{AreFootprints}
use Rattle.uc_contexts.specs.Turns.{entries}
use Rattle.novac_machine.specs.Scheduled.{TellsShared}
use Rattle.novac_machine.proofs.contexts.turns_of.Goals as goal

pub run_turns-requires-clause-tells : goal.run_turns-requires-clause-tells
run_turns-requires-clause-tells c =
    let code = c.args.code.now in
    let runs : List Isolated = lone_runs (entries c.args.entries.now) c.args.args.now in
    let footprints = c.in_ok-footprints.ensures.footprints c.args.packet c.requires.given.0 c.requires.given.1 in
    subst (λ (l : List ℕ). TellsShared code c.args.packet runs l) (sym c.deref-2.ensures.value)
    (c.in_ok-line.ensures code c.args.packet runs (subst (λ (f : List Marks). AreFootprints code c.args.packet runs f) (sym c.deref.ensures.value) footprints))
