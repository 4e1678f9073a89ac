use Rattle.std.proofs.Common.{◌≡◌, ◌++◌, map, take}
use Rattle.nv_lines.specs.Line.{text_of}
use Rattle.nv_memtext.specs.OutcomeText.{write_line}
use Rattle.nv_memtext.proofs.print.push_writes.Given as goal

abbrev pub invariant-loop-write : goal.invariant-loop-write
invariant-loop-write l = l.out.items ≡ l.initial.out.items ++ text_of (map write_line (take l.write-index l.writes))
