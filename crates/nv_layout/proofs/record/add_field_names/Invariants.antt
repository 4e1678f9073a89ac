use Rattle.std.proofs.Common.{◌≡◌, ◌++◌, take}
use Rattle.nv_ast.specs.Outline.{named_list}
use Rattle.nv_ast.specs.Tests.{names_of}
use Rattle.nv_layout.specs.OutlineView.{list_named_outlines}
use Rattle.nv_layout.proofs.record.add_field_names.Given as goal

abbrev pub invariant-loop-f : goal.invariant-loop-f
invariant-loop-f l = l.names.items ≡ l.fn.names.items ++ names_of (named_list (list_named_outlines (take l.f-index l.fs)))
