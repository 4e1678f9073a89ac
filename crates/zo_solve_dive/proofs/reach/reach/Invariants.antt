use Rattle.std.proofs.Common.{◌≡◌, ◌*◌, ◌^◌, take, pos, neg_ℤ, ◌≤ℤ◌}
use Rattle.zo_cert_tree.specs.Searched.{reach}
use Rattle.zo_solve_dive.proofs.reach.reach.Given as goal

abbrev pub invariant-loop-j : goal.invariant-loop-j
invariant-loop-j l =
    (l.sum ≡ reach l.fixed (take l.j-index l.terms)) × (neg_ℤ (pos (2 ^ 31 * l.j-index)) ≤ℤ l.sum) × (l.sum ≤ℤ pos (2 ^ 31 * l.j-index))
