use Rattle.std.proofs.Common.{ℕ, List, take}
use Rattle.nv_types_table.specs.inner.Named.{named}
use Rattle.nv_types_table.specs.inner.Needs.{IsEnds}
use Rattle.nv_types_table.proofs.BlockNeeds.{lets_of, HoldsLets, NeedSo}
use Rattle.nv_types_table.proofs.needs.greatest_need.Given as goal

abbrev pub invariant-loop-step : goal.invariant-loop-step
invariant-loop-step l =
    (xs : List (List ℕ)) (first : ℕ) → IsEnds first xs (named l.ends.entries)
    → NeedSo first xs l.steps l.step-index l.last l.tail_need l.most × HoldsLets first xs (lets_of (take l.step-index l.steps)) l.held.items
