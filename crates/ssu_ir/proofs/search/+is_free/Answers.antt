use Rattle.std.proofs.Common.{◌∙◌, sym, arith}
use Rattle.std.proofs.lemmas.Bool.{not_from_true, not_from_false}
use Rattle.ssu_ir.proofs.Unders.{present_tree, one_kid, two_kids}
use Rattle.ssu_ir.proofs.Searches.{free_here, free_none, free_one, free_two, by_first, by_second, by_failing, by_passing}
use Rattle.ssu_ir.proofs.search.+is_free.Goals as goal

pub node-n-requires : goal.node-n-requires
node-n-requires t c = present_tree _ _ c.requires

pub returns-then-is_operand : goal.returns-then-is_operand
returns-then-is_operand t c = free_here _ _ _ _ c.requires c.node-n.ensures (sym c.is_operand.ensures ∙ c.if-is_operand.true)

pub returns-in-None : goal.returns-in-None
returns-in-None t c = free_none _ _ _ _ c.requires c.node-n.ensures c.in-None.ensures (sym c.is_operand.ensures ∙ c.if-is_operand.false)

pub returns-else-not-is_defined : goal.returns-else-not-is_defined
returns-else-not-is_defined t c = not_from_true _ c.if-not-is_defined.false ∙ (by_failing _ _ _ (not_from_true _ (sym c.is_defined.ensures ∙ c.if-not-is_defined.false)) (free_one _ _ _ _ _ c.requires c.node-n.ensures c.in-One.ensures (sym c.is_operand.ensures ∙ c.if-is_operand.false)))

pub is_free-requires : goal.is_free-requires
is_free-requires t c = let o = one_kid _ _ _ _ c.requires c.node-n.ensures c.in-One.ensures in (omega (arith, c.decreases, o.kid.lighter), o.kid.has)

pub returns-then-not-is_defined : goal.returns-then-not-is_defined
returns-then-not-is_defined t c =
    by_passing _ _ _ _ (not_from_false _ (sym c.is_defined.ensures ∙ c.if-not-is_defined.true)) c.is_free.ensures (free_one _ _ _ _ _ c.requires c.node-n.ensures c.in-One.ensures (sym c.is_operand.ensures ∙ c.if-is_operand.false))

pub is_free-requires-in-Two : goal.is_free-requires-in-Two
is_free-requires-in-Two t c = let o = two_kids _ _ _ _ _ c.requires c.node-n.ensures c.in-Two.ensures in (omega (arith, c.decreases, o.first.lighter), o.first.has)

pub returns-then-is_free : goal.returns-then-is_free
returns-then-is_free t c = c.if-is_free.true ∙ (by_first _ _ _ (sym c.is_free-in-Two.ensures ∙ c.if-is_free.true) (free_two _ _ _ _ _ _ c.requires c.node-n.ensures c.in-Two.ensures (sym c.is_operand.ensures ∙ c.if-is_operand.false)))

pub is_free-requires-else-is_free : goal.is_free-requires-else-is_free
is_free-requires-else-is_free t c = let o = two_kids _ _ _ _ _ c.requires c.node-n.ensures c.in-Two.ensures in (omega (arith, c.decreases, o.second.lighter), o.second.has)

pub returns-else-is_free : goal.returns-else-is_free
returns-else-is_free t c =
    by_second _ _ _ _ (sym c.is_free-in-Two.ensures ∙ c.if-is_free.false) c.is_free-else-is_free.ensures (free_two _ _ _ _ _ _ c.requires c.node-n.ensures c.in-Two.ensures (sym c.is_operand.ensures ∙ c.if-is_operand.false))
