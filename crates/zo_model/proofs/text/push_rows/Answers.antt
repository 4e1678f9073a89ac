use Rattle.std.proofs.Common.{◌++◌, ◌∷◌, [], ap, ◌∙◌, arith}
use Rattle.zo_model.specs.Contents.{row_contents}
use Rattle.zo_model.specs.ProgramText.{row_line}
use Rattle.zo_model.proofs.Pieces.{line_more}
use Rattle.zo_model.proofs.text.push_rows.Goals as goal

pub loop-row-preserved : goal.loop-row-preserved
loop-row-preserved c =
    c.in_ok-push_row.ensures ∙ (ap (λ t. t ++ (row_line (row_contents c.row-item.result) ++ 10 ∷ [])) c.loop-row.invariant ∙ line_more row_contents row_line c.args.out.now.items c.args.rows.now c.loop-row.row-index c.row-item.result c.row-item.result (omega arith) c.row-item.is)
