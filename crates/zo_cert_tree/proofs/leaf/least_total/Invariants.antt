use Rattle.std.proofs.Common.{◌≡◌, ◌*◌, ◌^◌, take}
use Rattle.zo_model.specs.Program.{AtMost}
use Rattle.zo_cert_tree.specs.Certificate.{least_sum}
use Rattle.zo_cert_tree.proofs.leaf.least_total.Given as goal

abbrev pub invariant-loop-i : goal.invariant-loop-i
invariant-loop-i l = record {
  value : l.sum ≡ least_sum l.z (take l.i-index l.multipliers);
  bounded : AtMost (2 ^ 62 * l.i-index) l.sum;
}
