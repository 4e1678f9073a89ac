use Rattle.std.proofs.Common.{◌≡◌, ◌*◌, ◌^◌, take, pos, neg_ℤ, ◌≤ℤ◌}
use Rattle.zo_model.specs.Program.{terms_sum}
use Rattle.zo_cert_tree.specs.Fixing.{ones}
use Rattle.zo_solve_dive.proofs.reach.ones_total.Given as goal

abbrev pub invariant-loop-j : goal.invariant-loop-j
invariant-loop-j l =
    (l.sum ≡ terms_sum (take l.j-index l.terms) (ones l.fixed)) × (neg_ℤ (pos (2 ^ 31 * l.j-index)) ≤ℤ l.sum) × (l.sum ≤ℤ pos (2 ^ 31 * l.j-index))
