use Rattle.std.proofs.Common.{◌∙◌, refl, sym, ◌&&◌}
use Rattle.std.specs.List.{list_all}
use Rattle.nv_base.specs.Sets.{all_different}
use Rattle.ssu_ir.specs.Slots.{node_of}
use Rattle.ssu_ir.specs.View.{labels_view}
use Rattle.ssu_ir.specs.inner.Checks.{is_bound, is_node, node_names}
use Rattle.ssu_ir.specs.inner.Under.{tree_at}
use Rattle.ssu_ir.proofs.Searches.{by_failing}
use Rattle.ssu_ir.proofs.Keeps.{second_failing, two_passing}
use Rattle.ssu_ir.proofs.single_use.node_alone.Goals as goal

pub returns-then-not-is_node : goal.returns-then-not-is_node
returns-then-not-is_node c = by_failing (is_node (labels_view c.args.s.now) (node_of c.args.n.now)) (all_different (node_names (node_of c.args.n.now)) && list_all (is_bound c.args.l.now.params.items (tree_at c.args.s.now.nodes.slots c.args.l.now.body.0)) (node_names (node_of c.args.n.now))) _ (sym c.is_node.ensures ∙ c.if-not-is_node.true) refl

pub returns-then-not-operands_differ : goal.returns-then-not-operands_differ
returns-then-not-operands_differ c = second_failing (is_node (labels_view c.args.s.now) (node_of c.args.n.now)) (all_different (node_names (node_of c.args.n.now))) (list_all (is_bound c.args.l.now.params.items (tree_at c.args.s.now.nodes.slots c.args.l.now.body.0)) (node_names (node_of c.args.n.now))) _ (sym c.is_node.ensures ∙ c.if-not-is_node.false) (sym c.operands_differ.ensures ∙ c.if-not-operands_differ.true) refl

pub operands_bound-requires : goal.operands_bound-requires
operands_bound-requires c = c.requires

pub returns : goal.returns
returns c = two_passing (is_node (labels_view c.args.s.now) (node_of c.args.n.now)) (all_different (node_names (node_of c.args.n.now))) (list_all (is_bound c.args.l.now.params.items (tree_at c.args.s.now.nodes.slots c.args.l.now.body.0)) (node_names (node_of c.args.n.now))) _ _ (sym c.is_node.ensures ∙ c.if-not-is_node.false) (sym c.operands_differ.ensures ∙ c.if-not-operands_differ.false) c.operands_bound.ensures refl
