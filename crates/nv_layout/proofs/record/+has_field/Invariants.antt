use Rattle.std.proofs.Common.{◌≡◌, length, take}
use Rattle.nv_ast.specs.Outline.{records_of}
use Rattle.nv_layout.specs.OutlineView.{list_outlines}
use Rattle.nv_layout.proofs.record.+has_field.Given as goal

abbrev pub invariant-has_joined_field-loop-o : goal.invariant-has_joined_field-loop-o
invariant-has_joined_field-loop-o l = length (records_of (list_outlines (take l.o-index l.os))) ≡ 0
