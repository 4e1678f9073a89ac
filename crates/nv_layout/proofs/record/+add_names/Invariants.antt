use Rattle.std.proofs.Common.{◌≡◌, ◌++◌, take}
use Rattle.nv_ast.specs.Outline.{records_of}
use Rattle.nv_ast.specs.Tests.{names_of}
use Rattle.nv_layout.specs.OutlineView.{list_outlines}
use Rattle.nv_layout.proofs.record.+add_names.Given as goal

abbrev pub invariant-add_joined_names-loop-o : goal.invariant-add_joined_names-loop-o
invariant-add_joined_names-loop-o l = l.names.items ≡ l.fn.names.items ++ names_of (records_of (list_outlines (take l.o-index l.os)))
