use Rattle.std.proofs.Common.{◌<◌, length, sym, subst, ◌∙◌}
use Rattle.uc_isa.specs.Step.{EndsRun}
use Rattle.uc_isa.proofs.Places.{effect-inside}
use Rattle.uc_isa.proofs.Steps.{effect-rests}
use Rattle.uc_isa.proofs.engine.step.Goals as goal

pub perform-requires-clause-run : goal.perform-requires-clause-run
perform-requires-clause-run c = (c.requires.lawful _ _ c.at.ensures.instruction).run_inside

pub perform-requires-clause-pairs : goal.perform-requires-clause-pairs
perform-requires-clause-pairs c = (c.requires.lawful _ _ c.at.ensures.instruction).pairs

pub perform-requires-clause-numbers : goal.perform-requires-clause-numbers
perform-requires-clause-numbers c = (c.requires.lawful _ _ c.at.ensures.instruction).numbers

pub perform-requires-clause-halt : goal.perform-requires-clause-halt
perform-requires-clause-halt c = (c.requires.lawful _ _ c.at.ensures.instruction).halt

pub returns-clause-inside : goal.returns-clause-inside
returns-clause-inside c =
    let code = c.args.c.now.list in
    let lawful = c.requires.lawful _ _ c.at.ensures.instruction in
    subst (λ e. e.place < length code) (sym c.perform.ensures.is_engine) (effect-inside code _ c.args.e.now c.args.p.now lawful c.requires.inside)

pub returns-clause-unchanged : goal.returns-clause-unchanged
returns-clause-unchanged c = λ ends.
    let next = c.perform.ensures in
    let rests = effect-rests c.at.result.now c.args.e.now c.args.p.now (subst EndsRun next.is_stepped ends) in
    (next.is_engine ∙ rests.0, next.is_packet ∙ rests.1)
