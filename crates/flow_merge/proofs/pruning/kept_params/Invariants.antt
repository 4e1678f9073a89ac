use Rattle.std.proofs.Common.{◌≡◌, take}
use Rattle.nv_base.specs.Sets.{without}
use Rattle.flow_merge.proofs.pruning.kept_params.Given as goal

abbrev pub invariant-loop-p : goal.invariant-loop-p
invariant-loop-p l = l.v.items ≡ without (take l.p-index l.params) l.gone
