use Rattle.std.proofs.Common.{◌≡◌, ◌++◌, ◌-◌}
use Rattle.nv_generate.specs.Made.{lines_text, lines_from}
use Rattle.nv_generate.proofs.text.push_lines.Given as goal

abbrev pub invariant-loop-i : goal.invariant-loop-i
invariant-loop-i l = l.out.items ++ lines_text l.i (lines_from (l.size - l.i) l.i l.draws.state) ≡ l.initial.out.items ++ lines_text 0 (lines_from l.size 0 l.seed)
