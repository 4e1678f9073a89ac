use Rattle.std.proofs.Common.{◌∙◌, ap, map}
use Rattle.std.specs.HashMap.{get}
use Rattle.ssu_ir.specs.View.{labels_view}
use Rattle.ssu_liveness.proofs.RowSteps.{on-ok}
use Rattle.bank_prog_form.specs.Program.{same_column}
use Rattle.bank_prog_form.specs.inner.Form as form
use Rattle.bank_prog_form.specs.inner.Form.{summary_view}
use Rattle.bank_prog_rows.specs.inner.Waiting.{writes, lists_of}
use Rattle.bank_prog_form.proofs.Loops.{adds-as}
use Rattle.bank_prog_rows.proofs.WriteSteps.{all-written}
use Rattle.bank_prog_rows.proofs.waiting.push_write_owners.Goals as goal

pub returns : goal.returns
returns c =
    let labels = labels_view c.args.f.now.ssu.now in
    on-ok c.push_writes.result _ _
    (λ h. adds-as (get same_column c.args.numbers.now) c.args.rows.now.items c.push_writes.new.rows.items _ _ h
    (ap (λ ps. writes ps (lists_of c.deref-2.result.now)) (ap (map summary_view) c.deref.ensures.value ∙ c.args.f.now.right.summaries)
    ∙ ap (writes (form.parts labels)) (ap lists_of c.deref-2.ensures.value ∙ c.in_ok-words.ensures) ∙ all-written labels))
    c.push_writes.ensures
