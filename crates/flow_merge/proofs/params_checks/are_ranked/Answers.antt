use Rattle.flow_merge.proofs.Ranks.{labels_more, not_all_ranked, all_labels_ranked}
use Rattle.flow_merge.proofs.params_checks.are_ranked.Goals as goal

pub loop-i-preserved : goal.loop-i-preserved
loop-i-preserved c = labels_more _ _ c.loop-i.i c.index-labels-i.result c.index-labels-i.result c.index-labels-i.is (c.is_ranked.ensures.0 c.if-not-is_ranked.false) c.loop-i.invariant

pub returns-then-not-is_ranked : goal.returns-then-not-is_ranked
returns-then-not-is_ranked c = not_all_ranked _ _ c.loop-i.i c.index-labels-i.result c.index-labels-i.result _ c.loop-i-test.true c.index-labels-i.is c.is_ranked.ensures c.if-not-is_ranked.true

pub returns : goal.returns
returns c = all_labels_ranked _ _ c.loop-i.i c.loop-i-test.false c.loop-i.invariant
