use Rattle.std.proofs.Common.{◌∙◌, ap, map, refl}
use Rattle.std.specs.HashMap.{get}
use Rattle.std.specs.List.{flat_map}
use Rattle.ssu_ir.specs.Points.{points}
use Rattle.ssu_ir.specs.View.{labels_view}
use Rattle.ssu_liveness.proofs.RowSteps.{on-ok}
use Rattle.bank_prog_form.specs.Program.{same_column}
use Rattle.bank_prog_form.specs.Rows.{operand_lines, operand_banks}
use Rattle.bank_prog_form.specs.inner.Form.{part_operands, summary_view}
use Rattle.bank_prog_form.proofs.Loops.{adds-as, each-parts}
use Rattle.bank_prog.proofs.operands.push_operand_banks.Goals as goal

pub returns : goal.returns
returns c =
    let labels = labels_view c.args.f.now.ssu.now in
    on-ok c.push_operands.result _ _
    (λ h. adds-as (get same_column c.args.numbers.now) c.args.rows.now.items c.push_operands.new.rows.items (flat_map part_operands (map summary_view c.deref.result.now)) (operand_banks labels) h
    (ap (λ xs. flat_map part_operands (map summary_view xs)) c.deref.ensures.value ∙ ap (flat_map part_operands) c.args.f.now.right.summaries ∙ each-parts part_operands operand_lines (λ k q. refl) 0 (points labels)))
    c.push_operands.ensures
