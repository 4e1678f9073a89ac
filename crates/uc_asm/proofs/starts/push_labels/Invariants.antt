use Rattle.std.proofs.Common.{◌≡◌, ◌++◌, map, take}
use Rattle.nv_lines.specs.Line.{text_of}
use Rattle.uc_asm.specs.Items.{item_line}
use Rattle.uc_asm.specs.Starts.{start_label}
use Rattle.uc_asm.proofs.starts.push_labels.Given as goal

abbrev pub invariant-loop-number : goal.invariant-loop-number
invariant-loop-number l = l.out.items ≡ l.initial.out.items ++ text_of (map item_line (map start_label (take l.number-index l.numbers)))
