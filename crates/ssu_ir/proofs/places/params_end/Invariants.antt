use Rattle.std.proofs.Common.{◌<◌, All, take}
use Rattle.ssu_ir.specs.declared.node.SsuLabel.{SsuLabel}
use Rattle.ssu_ir.proofs.places.params_end.Given as goal

abbrev pub invariant-loop-l : goal.invariant-loop-l
invariant-loop-l l = All (λ (k : SsuLabel). All (λ x. x < l.most) k.params.items) (take l.l-index l.s.labels.items)
