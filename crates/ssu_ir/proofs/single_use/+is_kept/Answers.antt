use Rattle.std.proofs.Common.{◌∙◌, sym, ap, arith}
use Rattle.ssu_ir.proofs.Unders.{present_tree, one_kid, two_kids}
use Rattle.ssu_ir.proofs.Searches.{by_failing}
use Rattle.ssu_ir.proofs.Keeps.{kept_here, kept_none, kept_one, kept_two, second_failing, third_failing, two_passing, three_passing}
use Rattle.ssu_ir.specs.View.{labels_view}
use Rattle.ssu_ir.specs.inner.Checks.{is_bound, is_kept}
use Rattle.ssu_ir.specs.inner.Under.{tree_at}
use Rattle.ssu_ir.proofs.single_use.+is_kept.Goals as goal

pub node-n-requires : goal.node-n-requires
node-n-requires t c = present_tree _ _ c.requires.tree

pub node_alone-requires : goal.node_alone-requires
node_alone-requires t c = c.requires.body

pub returns-then-not-node_alone : goal.returns-then-not-node_alone
returns-then-not-node_alone t c = kept_here _ _ _ _ _ _ c.requires.tree c.node-n.ensures (sym c.node_alone.ensures ∙ c.if-not-node_alone.true)

pub returns-in-None : goal.returns-in-None
returns-in-None t c = kept_none _ _ _ _ _ _ c.requires.tree c.node-n.ensures c.in-None.ensures (sym c.node_alone.ensures ∙ c.if-not-node_alone.false)

pub operands_new-requires : goal.operands_new-requires
operands_new-requires t c = (one_kid _ _ _ _ c.requires.tree c.node-n.ensures c.in-One.ensures).kid.has

pub returns-then-not-operands_new : goal.returns-then-not-operands_new
returns-then-not-operands_new t c = by_failing _ _ _ (sym c.operands_new.ensures ∙ c.if-not-operands_new.true) (kept_one _ _ _ _ _ _ _ c.requires.tree c.node-n.ensures c.in-One.ensures (sym c.node_alone.ensures ∙ c.if-not-node_alone.false))

pub defs_kept-requires-clause-all : goal.defs_kept-requires-clause-all
defs_kept-requires-clause-all t c = c.requires.all

pub defs_kept-requires-clause-tree : goal.defs_kept-requires-clause-tree
defs_kept-requires-clause-tree t c = (one_kid _ _ _ _ c.requires.tree c.node-n.ensures c.in-One.ensures).kid.has

pub returns-then-not-defs_kept : goal.returns-then-not-defs_kept
returns-then-not-defs_kept t c = second_failing _ _ _ _ (sym c.operands_new.ensures ∙ c.if-not-operands_new.false) (sym c.defs_kept.ensures ∙ c.if-not-defs_kept.true) (kept_one _ _ _ _ _ _ _ c.requires.tree c.node-n.ensures c.in-One.ensures (sym c.node_alone.ensures ∙ c.if-not-node_alone.false))

pub is_kept-requires : goal.is_kept-requires
is_kept-requires t c = let o = one_kid _ _ _ _ c.requires.tree c.node-n.ensures c.in-One.ensures in (omega (arith, c.decreases, o.kid.lighter), (c.requires.all, (c.requires.body, o.kid.has)))

pub returns-else-not-defs_kept : goal.returns-else-not-defs_kept
returns-else-not-defs_kept t c = two_passing _ _ _ _ _ (sym c.operands_new.ensures ∙ c.if-not-operands_new.false) (sym c.defs_kept.ensures ∙ c.if-not-defs_kept.false) (c.is_kept.ensures ∙ ap (λ l. is_kept (labels_view c.args.s.now) (is_bound c.args.l.now.params.items (tree_at c.args.s.now.nodes.slots c.args.l.now.body.0)) l (tree_at c.args.s.now.nodes.slots c.in-One.k.0)) c.fresh_below.ensures) (kept_one _ _ _ _ _ _ _ c.requires.tree c.node-n.ensures c.in-One.ensures (sym c.node_alone.ensures ∙ c.if-not-node_alone.false))

pub operands_new-requires-in-Two : goal.operands_new-requires-in-Two
operands_new-requires-in-Two t c = (two_kids _ _ _ _ _ c.requires.tree c.node-n.ensures c.in-Two.ensures).first.has

pub returns-then-not-operands_new-2 : goal.returns-then-not-operands_new-2
returns-then-not-operands_new-2 t c = by_failing _ _ _ (sym c.operands_new-in-Two.ensures ∙ c.if-not-operands_new-2.true) (kept_two _ _ _ _ _ _ _ _ c.requires.tree c.node-n.ensures c.in-Two.ensures (sym c.node_alone.ensures ∙ c.if-not-node_alone.false))

pub operands_new-requires-in-Two-2 : goal.operands_new-requires-in-Two-2
operands_new-requires-in-Two-2 t c = (two_kids _ _ _ _ _ c.requires.tree c.node-n.ensures c.in-Two.ensures).second.has

pub returns-then-not-operands_new-3 : goal.returns-then-not-operands_new-3
returns-then-not-operands_new-3 t c = second_failing _ _ _ _ (sym c.operands_new-in-Two.ensures ∙ c.if-not-operands_new-2.false) (sym c.operands_new-in-Two-2.ensures ∙ c.if-not-operands_new-3.true) (kept_two _ _ _ _ _ _ _ _ c.requires.tree c.node-n.ensures c.in-Two.ensures (sym c.node_alone.ensures ∙ c.if-not-node_alone.false))

pub is_kept-requires-in-Two : goal.is_kept-requires-in-Two
is_kept-requires-in-Two t c = let o = two_kids _ _ _ _ _ c.requires.tree c.node-n.ensures c.in-Two.ensures in (omega (arith, c.decreases, o.first.lighter), (c.requires.all, (c.requires.body, o.first.has)))

pub returns-then-not-is_kept : goal.returns-then-not-is_kept
returns-then-not-is_kept t c = third_failing _ _ _ _ _ (sym c.operands_new-in-Two.ensures ∙ c.if-not-operands_new-2.false) (sym c.operands_new-in-Two-2.ensures ∙ c.if-not-operands_new-3.false) (sym c.is_kept-in-Two.ensures ∙ c.if-not-is_kept.true) (kept_two _ _ _ _ _ _ _ _ c.requires.tree c.node-n.ensures c.in-Two.ensures (sym c.node_alone.ensures ∙ c.if-not-node_alone.false))

pub is_kept-requires-in-Two-2 : goal.is_kept-requires-in-Two-2
is_kept-requires-in-Two-2 t c = let o = two_kids _ _ _ _ _ c.requires.tree c.node-n.ensures c.in-Two.ensures in (omega (arith, c.decreases, o.second.lighter), (c.requires.all, (c.requires.body, o.second.has)))

pub returns-else-not-is_kept : goal.returns-else-not-is_kept
returns-else-not-is_kept t c = three_passing _ _ _ _ _ _ (sym c.operands_new-in-Two.ensures ∙ c.if-not-operands_new-2.false) (sym c.operands_new-in-Two-2.ensures ∙ c.if-not-operands_new-3.false) (sym c.is_kept-in-Two.ensures ∙ c.if-not-is_kept.false) c.is_kept-in-Two-2.ensures (kept_two _ _ _ _ _ _ _ _ c.requires.tree c.node-n.ensures c.in-Two.ensures (sym c.node_alone.ensures ∙ c.if-not-node_alone.false))
