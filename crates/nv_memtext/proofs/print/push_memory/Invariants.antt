use Rattle.std.proofs.Common.{◌≡◌, ◌++◌}
use Rattle.std.specs.List.{flat_map}
use Rattle.nv_lines.specs.Line.{text_of}
use Rattle.nv_memtext.specs.OutcomeText.{stretch_lines, numbers_below}
use Rattle.nv_memtext.proofs.print.push_memory.Given as goal

abbrev pub invariant-loop-k : goal.invariant-loop-k
invariant-loop-k l = l.out.items ≡ l.initial.out.items ++ text_of (flat_map (stretch_lines l.mem l.words) (numbers_below l.k))
