use Rattle.std.proofs.Common.{◌≡◌, map, take}
use Rattle.ssu_ir.specs.View.{labels_view}
use Rattle.bank_prog.specs.Weighted.{weigh}
use Rattle.bank_prog.proofs.weighing.weighted_costs.Given as goal

abbrev pub invariant-loop-c : goal.invariant-loop-c
invariant-loop-c l = l.costs.items ≡ map (λ c. c.1) (map (weigh (labels_view l.f.ssu.now) l.w) (take l.c-index l.priced))
