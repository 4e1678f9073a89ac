use Rattle.std.proofs.Common.{◌∙◌, sym, arith}
use Rattle.ssu_ir.proofs.Unders.{present_tree, one_kid, two_kids}
use Rattle.ssu_ir.proofs.Searches.{mention_here, mention_none, mention_one, mention_two, by_first, by_second}
use Rattle.ssu_ir.proofs.search.+mentions.Goals as goal

pub node-n-requires : goal.node-n-requires
node-n-requires t c = present_tree _ _ c.requires

pub returns-then-is_operand : goal.returns-then-is_operand
returns-then-is_operand t c = mention_here _ _ _ _ c.requires c.node-n.ensures (sym c.is_operand.ensures ∙ c.if-is_operand.true)

pub returns-in-None : goal.returns-in-None
returns-in-None t c = mention_none _ _ _ _ c.requires c.node-n.ensures c.in-None.ensures (sym c.is_operand.ensures ∙ c.if-is_operand.false)

pub mentions-requires : goal.mentions-requires
mentions-requires t c = let o = one_kid _ _ _ _ c.requires c.node-n.ensures c.in-One.ensures in (omega (arith, c.decreases, o.kid.lighter), o.kid.has)

pub mentions-requires-in-Two : goal.mentions-requires-in-Two
mentions-requires-in-Two t c = let o = two_kids _ _ _ _ _ c.requires c.node-n.ensures c.in-Two.ensures in (omega (arith, c.decreases, o.first.lighter), o.first.has)

pub returns-then-mentions : goal.returns-then-mentions
returns-then-mentions t c = c.if-mentions.true ∙ (by_first _ _ _ (sym c.mentions-in-Two.ensures ∙ c.if-mentions.true) (mention_two _ _ _ _ _ _ c.requires c.node-n.ensures c.in-Two.ensures (sym c.is_operand.ensures ∙ c.if-is_operand.false)))

pub mentions-requires-else-mentions : goal.mentions-requires-else-mentions
mentions-requires-else-mentions t c = let o = two_kids _ _ _ _ _ c.requires c.node-n.ensures c.in-Two.ensures in (omega (arith, c.decreases, o.second.lighter), o.second.has)

pub returns-in-One : goal.returns-in-One
returns-in-One t c = c.mentions.ensures ∙ mention_one _ _ _ _ _ c.requires c.node-n.ensures c.in-One.ensures (sym c.is_operand.ensures ∙ c.if-is_operand.false)

pub returns-else-mentions : goal.returns-else-mentions
returns-else-mentions t c =
    by_second _ _ _ _ (sym c.mentions-in-Two.ensures ∙ c.if-mentions.false) c.mentions-else-mentions.ensures (mention_two _ _ _ _ _ _ c.requires c.node-n.ensures c.in-Two.ensures (sym c.is_operand.ensures ∙ c.if-is_operand.false))
