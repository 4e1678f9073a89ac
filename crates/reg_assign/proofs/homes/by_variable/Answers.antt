use Rattle.std.proofs.Common.{rules}
use Rattle.std.proofs.lemmas.List.Sorted.{IsNonDecreasingBy-from_sort_by_key}
use Rattle.place_plan.specs.declared.place.Home.{Home}
use Rattle.reg_assign.proofs.homes.by_variable.Goals as goal

pub returns-clause-sorted : goal.returns-clause-sorted
returns-clause-sorted c = IsNonDecreasingBy-from_sort_by_key (λ (h : Home). h.var) _ c.sort_unstable_by_key.ensures.sorted (λ a r q k. search rules)
