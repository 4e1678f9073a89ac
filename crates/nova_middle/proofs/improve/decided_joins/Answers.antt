use Rattle.nova_middle.proofs.Improved.{if_kept}
use Rattle.nova_middle.proofs.improve.decided_joins.Goals as goal

pub returns : goal.returns
returns c = record { kept = if_kept _ _ c.decide_choices.result c.in_ok-copied.ensures.kept c.decide_choices.ensures.params c.decide_choices.ensures.equal }
