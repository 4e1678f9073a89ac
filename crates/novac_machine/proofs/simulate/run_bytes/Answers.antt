use Rattle.std.proofs.Common.{ℕ, subst}
use Rattle.std.proofs.lemmas.Result.{err_from_is_err_and}
use Rattle.nv_memtext.specs.MemoryText.{Gives}
use Rattle.uc_isa.specs.Code.{CodeView}
use Rattle.uc_isa.specs.Lawful.{IsLawful}
use Rattle.novac_machine.proofs.Loaded.{its-params, refused-by}
use Rattle.novac_machine.proofs.simulate.run_bytes.Goals as goal

pub returns-in_err-job-clause-refused : goal.returns-in_err-job-clause-refused
returns-in_err-job-clause-refused c =
    let p = err_from_is_err_and c.from_residual-in_err-job.result c.from_residual-in_err-job.ensures.1 in
    rw (p.1, p.2) (
    refused-by c.args.bytes.now c.args.text.now c.in_err-job.field-0.0 c.in_ok-object.object c.code-code.result.now c.params.result c.in_ok-object.ensures.object c.code-code.ensures
    c.in_ok-check_lawful.ensures.lawful c.params.ensures.params c.in_err-job.ensures.refused)

pub run_job-requires-clause-lawful : goal.run_job-requires-clause-lawful
run_job-requires-clause-lawful c = subst (λ (x : CodeView). IsLawful x.list) c.code-code.ensures c.in_ok-check_lawful.ensures.lawful

pub returns-clause-ended : goal.returns-clause-ended
returns-clause-ended c = record {
  o = c.in_ok-object.object;
  object = c.in_ok-object.ensures.object;
  lawful = subst (λ (x : CodeView). IsLawful x.list) c.code-code.ensures c.in_ok-check_lawful.ensures.lawful;
  packet = c.in_ok-job.job.packet;
  arguments = c.in_ok-job.job.args;
  given = subst (λ (n : ℕ). Gives n c.args.text.now c.in_ok-job.job.packet c.in_ok-job.job.args) (its-params c.in_ok-object.object c.code-code.result.now c.params.result c.code-code.ensures c.params.ensures.params) c.in_ok-job.ensures.given;
  ends = c.in_ok-run_job.ensures.ends;
  prints = c.in_ok-run_job.ensures.prints;
}
