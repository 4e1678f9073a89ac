use Rattle.std.proofs.Common.{◌≡◌, ℕ, ◌^◌, drop, length, get_or, pos, ◌+ℤ◌}
use Rattle.std.specs.List.{All}
use Rattle.zo_model.specs.Program.{AtMost, columns}
use Rattle.zo_cert_tree.specs.inner.Leaf.{Avoids, changes}
use Rattle.zo_cert_tree.proofs.leaf.drain_row.Given as goal

abbrev pub invariant-loop-j : goal.invariant-loop-j
invariant-loop-j l = record {
  kept : length l.weights ≡ length l.initial.weights;
  value : changes l.z.costs.items l.d l.initial.weights l.fixed (columns l.z) ≡ l.sum +ℤ changes l.z.costs.items l.d l.weights l.fixed (columns l.z);
  cleared : (j : ℕ) → (Avoids j l.terms → get_or l.initial.weights j (pos 0) ≡ pos 0) → Avoids j (drop l.j-index l.terms) → get_or l.weights j (pos 0) ≡ pos 0;
  bounded : All (AtMost (2 ^ 99)) l.weights;
}
