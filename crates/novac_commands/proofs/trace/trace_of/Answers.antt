use Rattle.std.proofs.Common.{◌∙◌, ℕ, List, ap}
use Rattle.nv_ast.specs.TypedView.{typed_program}
use Rattle.nv_meaning_values.specs.Running.{Made}
use Rattle.nv_meaning_values.specs.Chains.{Kept, trail_of}
use Rattle.nv_meaning_values.specs.Notes.{Trail, traced_all, source_made}
use Rattle.nv_meaning.specs.Meaning.{traced}
use Rattle.nv_trace.proofs.FirstMade.{keeps-first}
use Rattle.novac_commands.specs.Tracing.{made_writes, kept_writes}
use Rattle.novac_commands.proofs.trace.trace_of.Goals as goal

pub returns : goal.returns
returns c =
    let made : List ℕ → List Made = λ args. source_made (traced (typed_program c.args.program.now) args c.args.job.packet c.args.calls).writes in
    ap (λ (t : Trail). t.kept) (c.in_ok-traced.ensures.trace ∙ ap (λ (k : Kept). traced_all (trail_of k) (made c.list.result.now)) c.in_ok-trace.ensures)
    ∙ keeps-first kept_writes (made c.list.result.now)
    ∙ ap (λ (args : List ℕ). made_writes (typed_program c.args.program.now) c.args.calls args c.args.job.packet) c.list.ensures.words
