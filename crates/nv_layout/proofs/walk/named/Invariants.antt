use Rattle.std.proofs.Common.{◌≡◌, false, take}
use Rattle.nv_ast.specs.Tests.{is_among, names_of}
use Rattle.nv_layout.specs.OutlineView.{layouts_of}
use Rattle.nv_layout.proofs.walk.named.Given as goal

abbrev pub invariant-loop-k : goal.invariant-loop-k
invariant-loop-k l = is_among l.x (names_of (layouts_of (take l.k-index l.known))) ≡ false
