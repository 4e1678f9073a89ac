use Rattle.std.proofs.Common.{◌∙◌, refl, sym, ap, ◌&&◌}
use Rattle.std.specs.List.{list_all}
use Rattle.ssu_ir.specs.Tree.{node_values}
use Rattle.ssu_ir.specs.Slots.{node_of}
use Rattle.ssu_ir.specs.View.{labels_view}
use Rattle.ssu_ir.specs.inner.Checks.{is_once, node_defs, node_fresh, node_results, node_number, copy_used, addressed}
use Rattle.ssu_ir.specs.inner.Under.{tree_at}
use Rattle.ssu_ir.proofs.Searches.{by_failing}
use Rattle.ssu_ir.proofs.Keeps.{second_failing, third_failing, three_passing}
use Rattle.ssu_ir.proofs.single_use.defs_kept.Goals as goal

pub defs_once-requires : goal.defs_once-requires
defs_once-requires c = c.requires.all

pub returns-then-not-defs_once : goal.returns-then-not-defs_once
returns-then-not-defs_once c = by_failing (list_all (is_once (labels_view c.args.s.now)) (node_defs (node_of c.args.n.now))) ((node_fresh c.args.fresh.now (node_of c.args.n.now)) && ((list_all (λ x. copy_used x (tree_at c.args.s.now.nodes.slots c.args.k.0)) (node_results (node_of c.args.n.now))) && (list_all (λ x. addressed (node_number (node_of c.args.n.now)) x (tree_at c.args.s.now.nodes.slots c.args.k.0)) (node_values (node_of c.args.n.now))))) _ (sym c.defs_once.ensures ∙ c.if-not-defs_once.true) refl

pub returns-then-not-is_fresh : goal.returns-then-not-is_fresh
returns-then-not-is_fresh c = second_failing (list_all (is_once (labels_view c.args.s.now)) (node_defs (node_of c.args.n.now))) (node_fresh c.args.fresh.now (node_of c.args.n.now)) ((list_all (λ x. copy_used x (tree_at c.args.s.now.nodes.slots c.args.k.0)) (node_results (node_of c.args.n.now))) && (list_all (λ x. addressed (node_number (node_of c.args.n.now)) x (tree_at c.args.s.now.nodes.slots c.args.k.0)) (node_values (node_of c.args.n.now)))) _ (sym c.defs_once.ensures ∙ c.if-not-defs_once.false) (sym c.is_fresh.ensures ∙ c.if-not-is_fresh.true) refl

pub all_used-requires : goal.all_used-requires
all_used-requires c = c.requires.tree

pub returns-then-not-all_used : goal.returns-then-not-all_used
returns-then-not-all_used c = third_failing (list_all (is_once (labels_view c.args.s.now)) (node_defs (node_of c.args.n.now))) (node_fresh c.args.fresh.now (node_of c.args.n.now)) (list_all (λ x. copy_used x (tree_at c.args.s.now.nodes.slots c.args.k.0)) (node_results (node_of c.args.n.now))) (list_all (λ x. addressed (node_number (node_of c.args.n.now)) x (tree_at c.args.s.now.nodes.slots c.args.k.0)) (node_values (node_of c.args.n.now))) _ (sym c.defs_once.ensures ∙ c.if-not-defs_once.false) (sym c.is_fresh.ensures ∙ c.if-not-is_fresh.false) (sym (c.all_used.ensures ∙ ap (list_all (λ x. copy_used x (tree_at c.args.s.now.nodes.slots c.args.k.0))) c.results.ensures) ∙ c.if-not-all_used.true) refl

pub all_addressed-requires : goal.all_addressed-requires
all_addressed-requires c = c.requires.tree

pub returns : goal.returns
returns c = three_passing (list_all (is_once (labels_view c.args.s.now)) (node_defs (node_of c.args.n.now))) (node_fresh c.args.fresh.now (node_of c.args.n.now)) (list_all (λ x. copy_used x (tree_at c.args.s.now.nodes.slots c.args.k.0)) (node_results (node_of c.args.n.now))) (list_all (λ x. addressed (node_number (node_of c.args.n.now)) x (tree_at c.args.s.now.nodes.slots c.args.k.0)) (node_values (node_of c.args.n.now))) _ _ (sym c.defs_once.ensures ∙ c.if-not-defs_once.false) (sym c.is_fresh.ensures ∙ c.if-not-is_fresh.false) (sym (c.all_used.ensures ∙ ap (list_all (λ x. copy_used x (tree_at c.args.s.now.nodes.slots c.args.k.0))) c.results.ensures) ∙ c.if-not-all_used.false) (c.all_addressed.ensures ∙ ap (list_all (λ x. addressed c.number.result x (tree_at c.args.s.now.nodes.slots c.args.k.0))) c.values.ensures ∙ ap (λ o. list_all (λ x. addressed o x (tree_at c.args.s.now.nodes.slots c.args.k.0)) (node_values (node_of c.args.n.now))) c.number.ensures) refl
