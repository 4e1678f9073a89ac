use Rattle.std.proofs.Common.{ap, arith, ◌∙◌}
use Rattle.std.specs.Prelude.{◌==◌, count_by}
use Rattle.nv_lines.proofs.Between.{line-between}
use Rattle.nv_lines.proofs.line_column.line_after.Goals as goal

pub returns : goal.returns
returns c =
    line-between c.args.bytes.now c.args.from c.args.at c.args.line c.line_ends.result (omega (arith, c.if-at-from.false)) c.requires
    (c.line_ends.ensures.counted ∙ ap (count_by (λ byte. byte == 10)) c.between.ensures)
