use Rattle.std.proofs.Common.{◌≡◌, ℕ, ◌<◌, ◌^◌, drop, length, get_or, pos, ◌+ℤ◌}
use Rattle.std.specs.List.{All}
use Rattle.zo_model.specs.Program.{AtMost, columns}
use Rattle.zo_cert_tree.specs.inner.Leaf.{changes}
use Rattle.zo_cert_tree.proofs.Drain.{AvoidsRows}
use Rattle.zo_cert_tree.proofs.leaf.drain.Given as goal

abbrev pub invariant-loop-i : goal.invariant-loop-i
invariant-loop-i l = record {
  kept : length l.weights ≡ columns l.z;
  value : changes l.z.costs.items l.d l.initial.weights l.fixed (columns l.z) ≡ l.sum +ℤ changes l.z.costs.items l.d l.weights l.fixed (columns l.z);
  cleared : (j : ℕ) → j < columns l.z → AvoidsRows l.z j (drop l.i-index l.multipliers) → get_or l.weights j (pos 0) ≡ pos 0;
  bounded : All (AtMost (2 ^ 99)) l.weights;
}
