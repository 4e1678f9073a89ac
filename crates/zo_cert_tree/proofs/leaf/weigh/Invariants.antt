use Rattle.std.proofs.Common.{◌≡◌, ℕ, ◌<◌, ◌*◌, ◌^◌, take, length, get_or, pos}
use Rattle.std.specs.List.{All}
use Rattle.zo_model.specs.Program.{AtMost, columns}
use Rattle.zo_cert_tree.specs.Certificate.{weight}
use Rattle.zo_cert_tree.proofs.leaf.weigh.Given as goal

abbrev pub invariant-loop-i : goal.invariant-loop-i
invariant-loop-i l = record {
  kept : length l.weights ≡ columns l.z;
  value : (j : ℕ) → j < columns l.z → get_or l.weights j (pos 0) ≡ weight l.z (take l.i-index l.multipliers) j;
  bounded : All (AtMost (2 ^ 73 * l.i-index)) l.weights;
}
