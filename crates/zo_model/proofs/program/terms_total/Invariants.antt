use Rattle.std.proofs.Common.{◌≡◌, ◌*◌, ◌^◌, take, pos, neg_ℤ, ◌≤ℤ◌}
use Rattle.zo_model.specs.Program.{terms_sum, vector}
use Rattle.zo_model.proofs.program.terms_total.Given as goal

abbrev pub invariant-loop-j : goal.invariant-loop-j
invariant-loop-j l =
    (l.sum ≡ terms_sum (take l.j-index l.terms) (vector l.x)) × (neg_ℤ (pos (2 ^ 31 * l.j-index)) ≤ℤ l.sum) × (l.sum ≤ℤ pos (2 ^ 31 * l.j-index))
