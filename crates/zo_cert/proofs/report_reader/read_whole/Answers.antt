use Rattle.std.proofs.Common.{length, map, sym, ◌∙◌, refl, codes, arith}
use Rattle.std.proofs.lemmas.Bool.{false≢true}
use Rattle.std.proofs.lemmas.Result.{err_from_is_err_and}
use Rattle.zo_model.specs.Contents.{contents}
use Rattle.zo_model.specs.ProgramText.{program_lines}
use Rattle.zo_model.proofs.ExactLemmas.{valid_from_contents}
use Rattle.zo_cert_tree.specs.Node.{node_contents, node_line}
use Rattle.zo_cert.specs.ReportText.{report_text, counted_line, verdict_lines}
use Rattle.zo_cert.proofs.ReportLines.{report_spelled}
use Rattle.zo_cert.proofs.ReportRefusals.{front_refusal, program_refusal}
use Rattle.zo_cert.proofs.ReportEndings.{verdict_refusal}
use Rattle.zo_cert.proofs.ReportWhole.{before_verdict, read_tree_refusal, report_made, behind_report}
use Rattle.zo_cert.proofs.report_reader.read_whole.Goals as goal

pub read_verdict-requires-clause-valid : goal.read_verdict-requires-clause-valid
read_verdict-requires-clause-valid c = valid_from_contents c.in_ok-z.z c.in_ok-z.ensures.valid

pub returns-in_err-slots-clause-refuses : goal.returns-in_err-slots-clause-refuses
returns-in_err-slots-clause-refuses c =
    let p = err_from_is_err_and c.from_residual.result c.from_residual.ensures.1 in
    rw (p.1, p.2, ← c.of.ensures) (front_refusal _ _ c.in_err-slots.ensures.err)

pub returns-in_err-z-clause-refuses : goal.returns-in_err-z-clause-refuses
returns-in_err-z-clause-refuses c =
    let p = err_from_is_err_and c.from_residual-in_err-z.result c.from_residual-in_err-z.ensures.1 in
    rw (p.1, p.2) (program_refusal c.args.bytes.now c.read_front.new.reader.lines c.read_front.new.reader.number c.in_ok-slots.slots c.in_ok-slots.budget _ c.in_ok-slots.ensures.slots c.in_ok-slots.ensures.low c.in_ok-slots.ensures.high
    (sym c.of.ensures ∙ c.in_ok-slots.ensures.lines) (omega (arith, c.in_ok-slots.ensures.number)) c.in_err-z.ensures.err)

pub returns-in_err-verdict-clause-refuses : goal.returns-in_err-verdict-clause-refuses
returns-in_err-verdict-clause-refuses c =
    let p = err_from_is_err_and c.from_residual-in_err-verdict.result c.from_residual-in_err-verdict.ensures.1 in
    rw (p.1, p.2) (verdict_refusal c.args.bytes.now c.read_program_lines.new.reader.lines c.read_program_lines.new.reader.number c.in_ok-slots.slots c.in_ok-slots.budget (contents c.in_ok-z.z) _
    (record { slots_fit = c.in_ok-slots.ensures.slots; budget_low = c.in_ok-slots.ensures.low; budget_high = c.in_ok-slots.ensures.high; program_valid = c.in_ok-z.ensures.valid })
    (before_verdict c.args.bytes.now c.read_front.new.reader.lines c.read_program_lines.new.reader.lines c.in_ok-slots.slots c.in_ok-slots.budget (contents c.in_ok-z.z) (sym c.of.ensures ∙ c.in_ok-slots.ensures.lines) c.in_ok-z.ensures.lines)
    (omega (arith, c.in_ok-slots.ensures.number, c.in_ok-z.ensures.number)) c.in_err-verdict.ensures.err)

pub returns-in_err-tree-clause-refuses : goal.returns-in_err-tree-clause-refuses
returns-in_err-tree-clause-refuses c =
    let p = err_from_is_err_and c.from_residual-in_err-tree.result c.from_residual-in_err-tree.ensures.1 in
    rw (p.1, p.2) (read_tree_refusal c.args.bytes.now c.read_front.new.reader.lines c.read_program_lines.new.reader.lines c.read_verdict.new.reader.lines c.read_front.new.reader.number c.read_program_lines.new.reader.number c.read_verdict.new.reader.number
    c.in_ok-slots.slots c.in_ok-slots.budget (contents c.in_ok-z.z) c.in_ok-verdict.verdict c.in_ok-verdict.x.on.items _
    (record { slots_fit = c.in_ok-slots.ensures.slots; budget_low = c.in_ok-slots.ensures.low; budget_high = c.in_ok-slots.ensures.high; program_valid = c.in_ok-z.ensures.valid })
    c.in_ok-verdict.ensures.count c.in_ok-verdict.ensures.blank
    (sym c.of.ensures ∙ c.in_ok-slots.ensures.lines) c.in_ok-z.ensures.lines c.in_ok-verdict.ensures.lines
    (omega (arith, c.in_ok-slots.ensures.number)) c.in_ok-z.ensures.number c.in_ok-verdict.ensures.number c.in_err-tree.ensures.err)

pub returns-then-not-is_done-clause-refuses : goal.returns-then-not-is_done-clause-refuses
returns-then-not-is_done-clause-refuses c =
    behind_report c.args.bytes.now c.read_front.new.reader.lines c.read_program_lines.new.reader.lines c.read_verdict.new.reader.lines c.read_tree.new.reader.lines
    c.read_front.new.reader.number c.read_program_lines.new.reader.number c.read_verdict.new.reader.number c.read_tree.new.reader.number
    (record { slots = c.in_ok-slots.slots; budget = c.in_ok-slots.budget; z = c.in_ok-z.z; verdict = c.in_ok-verdict.verdict; x = c.in_ok-verdict.x; tree = c.in_ok-tree.tree })
    (report_made (record { slots = c.in_ok-slots.slots; budget = c.in_ok-slots.budget; z = c.in_ok-z.z; verdict = c.in_ok-verdict.verdict; x = c.in_ok-verdict.x; tree = c.in_ok-tree.tree })
    c.in_ok-slots.ensures.slots c.in_ok-slots.ensures.low c.in_ok-slots.ensures.high c.in_ok-z.ensures.valid c.in_ok-verdict.ensures.count c.in_ok-verdict.ensures.blank c.in_ok-tree.ensures.some c.in_ok-tree.ensures.few c.in_ok-tree.ensures.fit)
    (sym c.of.ensures ∙ c.in_ok-slots.ensures.lines) c.in_ok-z.ensures.lines c.in_ok-verdict.ensures.lines c.in_ok-tree.ensures.lines (λ e. false≢true (c.if-not-is_done.ensures.1 e))
    (omega (arith, c.in_ok-slots.ensures.number)) c.in_ok-z.ensures.number c.in_ok-verdict.ensures.number c.in_ok-tree.ensures.number

pub returns-clause-valid : goal.returns-clause-valid
returns-clause-valid c =
    report_made (record { slots = c.in_ok-slots.slots; budget = c.in_ok-slots.budget; z = c.in_ok-z.z; verdict = c.in_ok-verdict.verdict; x = c.in_ok-verdict.x; tree = c.in_ok-tree.tree })
    c.in_ok-slots.ensures.slots c.in_ok-slots.ensures.low c.in_ok-slots.ensures.high c.in_ok-z.ensures.valid c.in_ok-verdict.ensures.count c.in_ok-verdict.ensures.blank c.in_ok-tree.ensures.some c.in_ok-tree.ensures.few c.in_ok-tree.ensures.fit

pub returns-clause-text : goal.returns-clause-text
unfolding report_text
returns-clause-text c =
    report_spelled c.args.bytes.now c.read_front.new.reader.lines c.read_program_lines.new.reader.lines c.read_verdict.new.reader.lines c.read_tree.new.reader.lines
    (codes "novareport 1") (counted_line (codes "slots") c.in_ok-slots.slots) (counted_line (codes "budget") c.in_ok-slots.budget) (program_lines (contents c.in_ok-z.z))
    (verdict_lines c.in_ok-verdict.verdict c.in_ok-z.z.costs.items c.in_ok-verdict.x.on.items)
    (counted_line (codes "tree") (length (map node_contents c.in_ok-tree.tree.nodes.items))) (map node_line (map node_contents c.in_ok-tree.tree.nodes.items))
    (sym c.of.ensures ∙ c.in_ok-slots.ensures.lines) c.in_ok-z.ensures.lines c.in_ok-verdict.ensures.lines c.in_ok-tree.ensures.lines (c.if-not-is_done.ensures.0 refl)
