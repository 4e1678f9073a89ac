use Rattle.std.proofs.Common.{◌≤◌, ◌<◌, ℕ, length, get_or, pos}
use Rattle.bank_prog_form.proofs.terms.place.Given as goal

abbrev pub invariant-loop-i : goal.invariant-loop-i
invariant-loop-i l = record {
  within : l.i ≤ length l.terms;
  above : (k : ℕ) → l.i ≤ k → k < length l.terms → l.j ≤ (get_or l.terms k (0, pos 0)).0;
}

abbrev pub decreases-loop-i : goal.decreases-loop-i
decreases-loop-i l = l.i
