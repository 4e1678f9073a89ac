use Rattle.std.proofs.Common.{◌≡◌, ◌++◌, drop}
use Rattle.nv_lines.specs.Line.{text_of}
use Rattle.novac_machine.specs.Scheduled.{context_lines}
use Rattle.novac_machine.proofs.contexts.turns_text.Given as goal

abbrev pub invariant-loop-i : goal.invariant-loop-i
invariant-loop-i l = l.out.items ++ text_of (context_lines l.i (drop l.i l.contexts)) ≡ text_of (context_lines 0 l.contexts)
