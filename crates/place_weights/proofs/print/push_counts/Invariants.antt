use Rattle.std.proofs.Common.{◌≡◌, ◌++◌, map, take}
use Rattle.nv_lines.specs.Line.{text_of}
use Rattle.place_weights.specs.WeightsText.{count_line}
use Rattle.place_weights.proofs.print.push_counts.Given as goal

abbrev pub invariant-loop-count : goal.invariant-loop-count
invariant-loop-count l = l.out.items ≡ l.initial.out.items ++ text_of (map count_line (take l.count-index l.counts))
