use Rattle.std.proofs.Common.{◌∙◌, ℕ, List, sym, ap, subst, length, take}
use Rattle.std.proofs.lemmas.Result.{err_from_is_err_and}
use Rattle.nv_base.specs.declared.outcome.Write.{Write}
use Rattle.nv_ast.specs.TypedView.{typed_program}
use Rattle.nv_meaning_values.specs.Chains.{trail_of}
use Rattle.nv_memtext.specs.MemoryText.{Gives}
use Rattle.nv_trace.specs.TraceText.{shown, trace_text}
use Rattle.novac_commands.proofs.Traced.{compared, other-write}
use Rattle.novac_commands.proofs.trace.trace_code.Goals as goal

pub returns-in_err-check_writes-clause-refused : goal.returns-in_err-check_writes-clause-refused
returns-in_err-check_writes-clause-refused c =
    let p = err_from_is_err_and c.from_residual-in_err-check_writes.result c.from_residual-in_err-check_writes.ensures.1 in
    let given = subst (λ (n : ℕ). Gives n c.args.text.now c.in_ok-job.job.packet c.in_ok-job.job.args) c.params.ensures.wide c.in_ok-job.ensures.given in
    let again = subst (λ (n : ℕ). Gives n c.args.text.now c.in_ok-job-2.job.packet c.in_ok-job-2.job.args) c.params-4.ensures.wide c.in_ok-job-2.ensures.given in
    rw (p.1, p.2)
    (other-write (typed_program c.args.program.now) c.args.code.now c.args.text.now c.args.tracing.steps c.args.tracing.calls c.in_ok-trace.trace c.in_ok-log.log c.in_ok-job.job.packet c.in_ok-job-2.job.packet c.in_ok-job.job.args c.in_ok-job-2.job.args given again
    c.in_ok-trace.ensures c.in_ok-log.ensures _
    (sym c.params-2.ensures.params ∙ c.in_ok-check_params.ensures.same ∙ c.params-3.ensures.wide)
    c.in_err-check_writes.ensures.refused)

pub returns-clause-ended : goal.returns-clause-ended
returns-clause-ended c =
    let given = subst (λ (n : ℕ). Gives n c.args.text.now c.in_ok-job.job.packet c.in_ok-job.job.args) c.params.ensures.wide c.in_ok-job.ensures.given in
    let again = subst (λ (n : ℕ). Gives n c.args.text.now c.in_ok-job-2.job.packet c.in_ok-job-2.job.args) c.params-4.ensures.wide c.in_ok-job-2.ensures.given in
    compared (typed_program c.args.program.now) c.args.code.now c.args.text.now c.args.tracing.steps c.args.tracing.calls c.in_ok-trace.trace c.in_ok-log.log c.in_ok-job.job.packet c.in_ok-job-2.job.packet c.in_ok-job.job.args c.in_ok-job-2.job.args given again
    c.in_ok-trace.ensures c.in_ok-log.ensures c.args.source.now c.args.tracing.line c.in_ok-out.out.items
    (sym c.params-2.ensures.params ∙ c.in_ok-check_params.ensures.same ∙ c.params-3.ensures.wide)
    c.in_ok-check_writes.ensures.agree
    (c.in_ok-out.ensures ∙ ap (λ (ws : List Write). trace_text c.args.source.now (shown c.args.source.now c.args.tracing.line (take (length ws) (trail_of c.in_ok-trace.trace).kept))) c.kept.ensures.kept)
