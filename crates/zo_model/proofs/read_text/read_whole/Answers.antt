use Rattle.std.proofs.Common.{◌++◌, sym, ap, ◌∙◌, refl, arith}
use Rattle.std.proofs.lemmas.Bool.{false≢true}
use Rattle.std.proofs.lemmas.List.{append-nil}
use Rattle.std.proofs.lemmas.Result.{err_from_is_err_and}
use Rattle.nv_lines.specs.Line.{text_of}
use Rattle.zo_model.specs.Contents.{contents}
use Rattle.zo_model.specs.ProgramText.{program_text, program_lines}
use Rattle.zo_model.proofs.ExactLemmas.{stop_fault, more_fault}
use Rattle.zo_model.proofs.read_text.read_whole.Goals as goal

pub returns-in_err-z-clause-refuses : goal.returns-in_err-z-clause-refuses
returns-in_err-z-clause-refuses c =
    let p = err_from_is_err_and c.from_residual.result c.from_residual.ensures.1 in
    rw (p.1, p.2, ← c.of.ensures) (stop_fault _ _ c.in_err-z.ensures.err)

pub returns-then-not-is_done-clause-refuses : goal.returns-then-not-is_done-clause-refuses
returns-then-not-is_done-clause-refuses c =
    rw (← c.of.ensures) (more_fault (contents c.in_ok-z.z) _ c.read_program_lines.new.reader.lines _ c.in_ok-z.ensures.valid c.in_ok-z.ensures.lines (λ e. false≢true (c.if-not-is_done.ensures.1 e)) (omega (arith, c.in_ok-z.ensures.number)))

pub returns-clause-text : goal.returns-clause-text
unfolding program_text
returns-clause-text c =
    sym c.of.ensures ∙ (c.in_ok-z.ensures.lines ∙ (ap (λ r. text_of (program_lines (contents c.in_ok-z.z)) ++ r) (c.if-not-is_done.ensures.0 refl) ∙ append-nil (text_of (program_lines (contents c.in_ok-z.z)))))
