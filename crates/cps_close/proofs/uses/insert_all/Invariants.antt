use Rattle.std.proofs.Common.{◌≡◌, ℕ, nat_eq, ◌||◌, take}
use Rattle.std.specs.HashSet as set
use Rattle.nv_base.specs.Sets.{is_in}
use Rattle.cps_close.proofs.uses.insert_all.Given as goal

abbrev pub invariant-loop-x : goal.invariant-loop-x
invariant-loop-x l = (q : ℕ) → set.contains nat_eq l.s q ≡ (is_in q (take l.x-index l.xs) || set.contains nat_eq l.initial.s q)
