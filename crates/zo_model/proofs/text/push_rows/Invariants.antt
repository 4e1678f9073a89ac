use Rattle.std.proofs.Common.{◌≡◌, ◌++◌, map, take}
use Rattle.nv_lines.specs.Line.{text_of}
use Rattle.zo_model.specs.Contents.{row_contents}
use Rattle.zo_model.specs.ProgramText.{row_line}
use Rattle.zo_model.proofs.text.push_rows.Given as goal

abbrev pub invariant-loop-row : goal.invariant-loop-row
invariant-loop-row l = l.out.items ≡ l.initial.out.items ++ text_of (map row_line (map row_contents (take l.row-index l.rows)))
