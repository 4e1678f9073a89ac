use Rattle.std.proofs.Common.{◌≡◌, true, take}
use Rattle.ssu_ir.specs.View.{labels_view}
use Rattle.std.specs.List.{list_all}
use Rattle.place_ir_checks.specs.inner.Checks as checks
use Rattle.place_ir_checks.proofs.checking.passes_there.Given as goal

abbrev pub invariant-loop-q : goal.invariant-loop-q
invariant-loop-q l = list_all (checks.is_there (labels_view l.s)) (take l.q-index l.p.passes.items) ≡ true
