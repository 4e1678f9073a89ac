use Rattle.std.proofs.Common.{◌≡◌, true, not, take}
use Rattle.std.specs.List.{list_all}
use Rattle.nv_base.specs.Sets.{is_in}
use Rattle.ssu_ir.proofs.single_use.none_in.Given as goal

abbrev pub invariant-loop-x : goal.invariant-loop-x
invariant-loop-x l = list_all (λ x. not (is_in x l.others)) (take l.x-index l.xs) ≡ true
