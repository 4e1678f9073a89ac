use Rattle.std.proofs.Common.{◌∙◌, ◌++◌, ap, map}
use Rattle.std.specs.HashMap.{get}
use Rattle.zo_model.specs.Contents.{row_contents}
use Rattle.ssu_ir.specs.View.{labels_view}
use Rattle.ssu_liveness.specs.LiveRows.{items_of}
use Rattle.ssu_liveness.proofs.RowSteps.{on-ok}
use Rattle.bank_prog_form.specs.Program.{same_column, row_of}
use Rattle.bank_prog_form.specs.inner.Form.{summary_view}
use Rattle.bank_prog_form.specs.inner.Owners.{fills, rest}
use Rattle.bank_prog_rows.proofs.Fills.{all-fills}
use Rattle.bank_prog_rows.proofs.refills.push_fill_owners.Goals as goal

pub returns : goal.returns
returns c =
    let number = get same_column c.args.numbers.now in
    let labels = labels_view c.args.f.now.ssu.now in
    on-ok c.push_fills.result _ _
    (λ h. h ∙ ap (λ zs. map row_contents c.args.rows.now.items ++ zs)
    (ap (λ ps. map (row_of number) (fills labels ps (rest (items_of c.args.held.now)))) (ap (map summary_view) c.deref.ensures.value ∙ c.args.f.now.right.summaries) ∙ all-fills number labels (items_of c.args.held.now) c.requires.held))
    c.push_fills.ensures
