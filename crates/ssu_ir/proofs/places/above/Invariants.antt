use Rattle.std.proofs.Common.{◌<◌, ◌≤◌, All, take}
use Rattle.ssu_ir.proofs.places.above.Given as goal

abbrev pub invariant-loop-x : goal.invariant-loop-x
invariant-loop-x l = record {
  items : All (λ x. x < l.most) (take l.x-index l.xs);
  least : l.least ≤ l.most;
}
