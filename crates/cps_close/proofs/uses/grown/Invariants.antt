use Rattle.std.proofs.Common.{◌≡◌, ℕ, nat_eq, ◌++◌, drop}
use Rattle.std.specs.HashSet as set
use Rattle.nv_base.specs.Sets.{is_in}
use Rattle.cps_close.specs.inner.Closed.{noted_all}
use Rattle.cps_close.proofs.uses.grown.Given as goal

-- the set has what is gone and what is in the list, and the rest makes the same of the list
abbrev pub invariant-loop-x : goal.invariant-loop-x
invariant-loop-x l = record {
  members : (q : ℕ) → set.contains nat_eq l.seen q ≡ is_in q (l.gone ++ l.v.items);
  list : noted_all l.gone l.v.items (drop l.x-index l.used) ≡ noted_all l.gone l.needed l.used;
}
