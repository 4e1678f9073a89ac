use Rattle.std.proofs.Common.{map, ap}
use Rattle.flow_ir.specs.View.{label_view}
use Rattle.flow_merge.proofs.Ranks.{wanted_at}
use Rattle.flow_merge.proofs.params_program.prune.Goals as goal

pub returns-then-are_ranked-clause-wanted : goal.returns-then-are_ranked-clause-wanted
returns-then-are_ranked-clause-wanted c = wanted_at _ _ _ c.in_ok-g.g.formed (c.are_ranked.ensures.0 c.if-are_ranked.true) (ap (map label_view) c.deref-5.ensures.value)
