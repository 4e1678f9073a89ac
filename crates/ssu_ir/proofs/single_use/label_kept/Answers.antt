use Rattle.std.proofs.Common.{◌∙◌, refl, sym, ap}
use Rattle.std.specs.List.{list_all}
use Rattle.ssu_ir.specs.View.{labels_view}
use Rattle.ssu_ir.specs.inner.Checks.{is_once, is_bound, is_kept}
use Rattle.ssu_ir.specs.inner.Under.{tree_at}
use Rattle.ssu_ir.proofs.Searches.{by_failing, by_passing}
use Rattle.ssu_ir.proofs.single_use.label_kept.Goals as goal

pub all_once-requires : goal.all_once-requires
all_once-requires c = c.requires.all

pub returns-else-all_once : goal.returns-else-all_once
returns-else-all_once c = c.if-all_once.false ∙ (by_failing (list_all (is_once (labels_view c.args.s.now)) c.args.l.now.params.items) (is_kept (labels_view c.args.s.now) (is_bound c.args.l.now.params.items (tree_at c.args.s.now.nodes.slots c.args.l.now.body.0)) c.args.l.now.params.items (tree_at c.args.s.now.nodes.slots c.args.l.now.body.0)) _ (sym (c.all_once.ensures ∙ ap (list_all (is_once (labels_view c.args.s.now))) c.deref.ensures.value) ∙ c.if-all_once.false) refl)

pub is_kept-requires-clause-all : goal.is_kept-requires-clause-all
is_kept-requires-clause-all c = c.requires.all

pub is_kept-requires-clause-body : goal.is_kept-requires-clause-body
is_kept-requires-clause-body c = c.requires.body

pub is_kept-requires-clause-tree : goal.is_kept-requires-clause-tree
is_kept-requires-clause-tree c = c.requires.body

pub returns-then-all_once : goal.returns-then-all_once
returns-then-all_once c = by_passing (list_all (is_once (labels_view c.args.s.now)) c.args.l.now.params.items) (is_kept (labels_view c.args.s.now) (is_bound c.args.l.now.params.items (tree_at c.args.s.now.nodes.slots c.args.l.now.body.0)) c.args.l.now.params.items (tree_at c.args.s.now.nodes.slots c.args.l.now.body.0)) _ _ (sym (c.all_once.ensures ∙ ap (list_all (is_once (labels_view c.args.s.now))) c.deref.ensures.value) ∙ c.if-all_once.true) (c.is_kept.ensures ∙ ap (λ l. is_kept (labels_view c.args.s.now) (is_bound c.args.l.now.params.items (tree_at c.args.s.now.nodes.slots c.args.l.now.body.0)) l (tree_at c.args.s.now.nodes.slots c.args.l.now.body.0)) c.deref-then-all_once.ensures.value) refl
