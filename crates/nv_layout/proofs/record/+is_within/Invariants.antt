use Rattle.std.proofs.Common.{◌≤◌, take}
use Rattle.nv_ast.specs.Outline.{highest_outline, highest_named_outline}
use Rattle.nv_layout.specs.OutlineView.{list_outlines, list_named_outlines}
use Rattle.nv_layout.proofs.record.+is_within.Given as goal

abbrev pub invariant-are_named_within-loop-f : goal.invariant-are_named_within-loop-f
invariant-are_named_within-loop-f l = highest_named_outline (list_named_outlines (take l.f-index l.fs)) ≤ l.height

abbrev pub invariant-are_within-loop-o : goal.invariant-are_within-loop-o
invariant-are_within-loop-o l = highest_outline (list_outlines (take l.o-index l.os)) ≤ l.height
