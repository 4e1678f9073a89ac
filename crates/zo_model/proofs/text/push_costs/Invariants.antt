use Rattle.std.proofs.Common.{◌≡◌, ◌++◌, map, take}
use Rattle.nv_lines.specs.Line.{text_of}
use Rattle.zo_model.specs.ProgramText.{cost_line}
use Rattle.zo_model.proofs.text.push_costs.Given as goal

abbrev pub invariant-loop-cost : goal.invariant-loop-cost
invariant-loop-cost l = l.out.items ≡ l.initial.out.items ++ text_of (map cost_line (take l.cost-index l.costs))
