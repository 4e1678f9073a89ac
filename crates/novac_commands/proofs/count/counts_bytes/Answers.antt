use Rattle.std.proofs.Common.{ℕ, ◌∙◌, subst}
use Rattle.nv_ast.specs.TypedView.{typed_program}
use Rattle.nv_memtext.specs.MemoryText.{Gives}
use Rattle.ssu_ir.specs.View.{labels_view}
use Rattle.novac_commands.proofs.CountedRuns.{counts-made}
use Rattle.novac_commands.proofs.count.counts_bytes.Goals as goal

pub returns-clause-made : goal.returns-clause-made
returns-clause-made c =
    counts-made c.args.bytes.now c.args.text.now c.args.name.now c.args.jumps (typed_program c.in_ok-program.program) (labels_view c.in_ok-program.form) c.in_ok-job.job.packet c.in_ok-job.job.args _ c.in_ok-counted_made.field-0
    c.in_ok-program.ensures.source c.in_ok-program.ensures.form (subst (λ (n : ℕ). Gives n c.args.text.now c.in_ok-job.job.packet c.in_ok-job.job.args) c.params.ensures.wide c.in_ok-job.ensures.given) c.size-size.ensures.sizes
    c.in_ok-counted.ensures.counts c.in_ok-counted_made.ensures.saves (c.in_ok-counted_made.ensures.status ∙ c.in_ok-counted.ensures.ends) (c.in_ok-counted_made.ensures.text ∙ c.in_ok-counted.ensures.prints)
