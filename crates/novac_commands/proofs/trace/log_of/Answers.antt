use Rattle.std.proofs.Common.{◌≡◌, ◌∙◌, ℕ, List, [], ap, take}
use Rattle.nv_base.specs.Log.{Log, noted_all}
use Rattle.nv_base.specs.declared.outcome.Write.{Write}
use Rattle.nv_base.specs.Meanings.{source_writes}
use Rattle.nv_base.proofs.LogLemmas.{keeps_first}
use Rattle.uc_isa.specs.Engine.{run, start}
use Rattle.uc_isa.specs.declared.engine.Engine.{Engine}
use Rattle.novac_machine.specs.Machine.{spill_base}
use Rattle.novac_commands.specs.Tracing.{kept_writes}
use Rattle.novac_commands.proofs.trace.log_of.Goals as goal

pub returns : goal.returns
returns c =
    let begun : c.start-engine.result ≡ start c.args.job.args spill_base = c.start-engine.ensures ∙ ap (λ (a : List ℕ). start a spill_base) c.list.ensures.words in
    let writes : Engine → List Write = λ e. source_writes (run c.args.code.now.list c.args.steps e c.args.job.packet []).writes in
    ap (λ (l : Log). l.kept) (c.simulate.ensures.log ∙ ap (λ (l : Log). noted_all l (writes c.start-engine.result)) c.in_ok-log.ensures)
    ∙ keeps_first kept_writes (writes c.start-engine.result)
    ∙ ap (λ (e : Engine). take kept_writes (writes e)) begun
