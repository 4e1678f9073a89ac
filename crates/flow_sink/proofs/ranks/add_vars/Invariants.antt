use Rattle.std.proofs.Common.{◌≡◌, ◌++◌, drop}
use Rattle.nv_base.specs.Sets.{all_vars}
use Rattle.flow_sink.proofs.ranks.add_vars.Given as goal

abbrev pub invariant-loop-b : goal.invariant-loop-b
invariant-loop-b l = l.out.items ++ all_vars (drop l.b-index l.bs) ≡ l.fn.out.items ++ all_vars l.fn.bs
