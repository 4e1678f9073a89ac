use Rattle.std.proofs.Common.{◌∙◌, ◌++◌, ap, map}
use Rattle.std.specs.HashMap.{get}
use Rattle.ssu_ir.specs.View.{labels_view}
use Rattle.zo_model.specs.Contents.{row_contents}
use Rattle.bank_prog_form.specs.Program.{same_column, row_of}
use Rattle.bank_prog_form.specs.Rows.{lines}
use Rattle.bank_prog.proofs.all_rows.rows_of.Goals as goal

pub returns : goal.returns
returns c =
    c.in_ok-push_all.ensures
    ∙ ap (λ rows. map row_contents rows ++ map (row_of (get same_column c.args.numbers.now)) (lines (labels_view c.args.f.now.ssu.now) c.args.slots)) c.new-rows.ensures.items
