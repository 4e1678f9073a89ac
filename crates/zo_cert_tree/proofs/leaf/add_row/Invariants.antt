use Rattle.std.proofs.Common.{◌≡◌, ℕ, ◌<◌, ◌+◌, ◌*◌, ◌^◌, take, length, get_or, pos, ◌+ℤ◌, ◌*ℤ◌}
use Rattle.std.specs.List.{All}
use Rattle.zo_model.specs.Program.{AtMost}
use Rattle.zo_cert_tree.specs.Certificate.{coefficient}
use Rattle.zo_cert_tree.proofs.leaf.add_row.Given as goal

abbrev pub invariant-loop-j : goal.invariant-loop-j
invariant-loop-j l = record {
  kept : length l.weights ≡ length l.initial.weights;
  added : (j : ℕ) → j < length l.initial.weights → get_or l.weights j (pos 0) ≡ get_or l.initial.weights j (pos 0) +ℤ pos l.m *ℤ coefficient (take l.j-index l.terms) j;
  bounded : (b : ℕ) → All (AtMost b) l.initial.weights → All (AtMost (b + 2 ^ 47 * l.j-index)) l.weights;
}
