use Rattle.std.proofs.Common.{List, ◌+◌, take, sym, subst}
use Rattle.std.proofs.lemmas.List.{take_all}
use Rattle.uc_contexts.specs.declared.alone.Marks.{Marks}
use Rattle.uc_contexts.specs.Alone.{runs_from}
use Rattle.uc_contexts.specs.Marked.{AreFootprints}
use Rattle.uc_contexts.specs.Turns.{entries}
use Rattle.novac_machine.proofs.OwnEntries.{footprints-next}
use Rattle.novac_machine.proofs.footprints.feet_of.Goals as goal

pub loop-number-preserved : goal.loop-number-preserved
loop-number-preserved c = λ p words g.
    subst (λ (l : List Marks). AreFootprints c.args.code.now p (runs_from (entries c.args.entries.now) 0 (take (c.loop-number.number + 1) c.args.args.now)) l) (sym c.in_ok-push.ensures.items)
    (footprints-next c.args.code.now p (entries c.args.entries.now) c.args.args.now c.loop-number.number c.index-args-number.result c.loop-number.footprints.items c.in_ok-marks.marks c.loop-number-test.true c.index-args-number.is
    (c.loop-number.invariant p words g) (c.in_ok-marks.ensures.footprint p words g))

pub returns-clause-footprints : goal.returns-clause-footprints
returns-clause-footprints c = λ p words g.
    subst (λ l. AreFootprints c.args.code.now p (runs_from (entries c.args.entries.now) 0 l) c.loop-number.footprints.items) (take_all c.loop-number.number c.args.args.now c.loop-number-test.false) (c.loop-number.invariant p words g)
