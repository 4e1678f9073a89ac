use Rattle.std.proofs.Common.{◌≤◌, All, length, take}
use Rattle.ssu_ir.specs.declared.node.SsuLabel.{SsuLabel}
use Rattle.ssu_ir.proofs.places.room.Given as goal

abbrev pub invariant-loop-l : goal.invariant-loop-l
invariant-loop-l l = record {
  eight : 8 ≤ l.most;
  params : All (λ (k : SsuLabel). length k.params.items ≤ l.most) (take l.l-index l.s.labels.items);
}
