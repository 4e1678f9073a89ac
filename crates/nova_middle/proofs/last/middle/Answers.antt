use Rattle.std.proofs.Common.{map}
use Rattle.flow_ir.specs.View.{label_view}
use Rattle.nova_middle.proofs.Single.{made_kept}
use Rattle.nova_middle.proofs.last.middle.Goals as goal

pub returns-clause-kept : goal.returns-clause-kept
returns-clause-kept c = made_kept _ _ _ _ _ _ c.in_ok-l.ensures.kept c.in_ok-l.ensures.made.params c.in_ok-l.ensures.made.equal

pub returns-clause-made : goal.returns-clause-made
returns-clause-made c = (map label_view c.in_ok-l.l.flow.labels.items, c.in_ok-l.ensures.made.reduced, c.in_ok-l.ensures.made.made)
