use Rattle.std.proofs.Common.{◌≡◌, ℕ, List, [], ap, sym, ◌∙◌, subst}
use Rattle.uc_isa.specs.Code.{CodeView}
use Rattle.uc_isa.specs.Engine.{engine, run, start}
use Rattle.uc_isa.specs.Lawful.{IsLawful}
use Rattle.uc_isa.specs.declared.engine.Engine.{Engine}
use Rattle.novac_words.specs.Status.{outcome_status}
use Rattle.novac_machine.specs.Machine.{spill_base}
use Rattle.novac_machine.proofs.simulate.run_job.Goals as goal

pub simulate-outcome-requires-clause-lawful : goal.simulate-outcome-requires-clause-lawful
simulate-outcome-requires-clause-lawful c = subst (λ (x : CodeView). IsLawful x.list) (sym c.code-code.ensures) c.requires.lawful

pub returns-clause-ends : goal.returns-clause-ends
returns-clause-ends c =
    let begun : c.start-engine.result ≡ start c.args.job.args spill_base = c.start-engine.ensures ∙ ap (λ (a : List ℕ). start a spill_base) c.list.ensures.words in
    c.status_of.ensures.status
    ∙ ap outcome_status (c.simulate-outcome.ensures.outcome ∙ ap (λ (e : Engine). (run c.code-code.result.now.list c.args.steps e c.args.job.packet []).outcome) begun)
    ∙ ap (λ (x : CodeView). outcome_status (engine x c.args.job.args spill_base c.args.job.packet c.args.steps).outcome) c.code-code.ensures
