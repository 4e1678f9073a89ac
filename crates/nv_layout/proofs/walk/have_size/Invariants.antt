use Rattle.std.proofs.Common.{◌≡◌, true, take}
use Rattle.std.specs.Prelude.{◌==◌}
use Rattle.std.specs.List.{list_all}
use Rattle.nv_ast.specs.Outline.{sizes_of}
use Rattle.nv_layout.specs.OutlineView.{list_named_outlines}
use Rattle.nv_layout.proofs.walk.have_size.Given as goal

abbrev pub invariant-loop-a : goal.invariant-loop-a
invariant-loop-a l = list_all (λ m. m == l.n) (sizes_of (list_named_outlines (take l.a-index l.alternatives))) ≡ true
