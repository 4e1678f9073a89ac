use Rattle.std.proofs.Common.{◌≡◌, min, take}
use Rattle.std.below.core.specs.declared.int.u64.TheConstants.{MAX}
use Rattle.nv_ast.specs.Outline.{total_named_size, longest, total_size}
use Rattle.nv_layout.specs.OutlineView.{list_named_outlines, list_outlines}
use Rattle.nv_layout.proofs.extent.+measured.Given as goal

abbrev pub invariant-measured_joined-loop-o : goal.invariant-measured_joined-loop-o
invariant-measured_joined-loop-o l = l.total ≡ min (total_size (list_outlines (take l.o-index l.os))) MAX

abbrev pub invariant-measured_longest-loop-f : goal.invariant-measured_longest-loop-f
invariant-measured_longest-loop-f l = l.most ≡ min (longest (list_named_outlines (take l.f-index l.fs))) MAX

abbrev pub invariant-measured_parts-loop-f : goal.invariant-measured_parts-loop-f
invariant-measured_parts-loop-f l = l.total ≡ min (total_named_size (list_named_outlines (take l.f-index l.fs))) MAX
