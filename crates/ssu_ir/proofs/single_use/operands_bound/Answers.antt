use Rattle.std.proofs.Common.{◌∙◌, sym, ap}
use Rattle.std.specs.List.{list_all}
use Rattle.std.proofs.lemmas.List.Folds.{list_all-append}
use Rattle.ssu_ir.specs.inner.Checks.{is_bound}
use Rattle.ssu_ir.specs.inner.Under.{tree_at}
use Rattle.ssu_ir.proofs.Searches.{by_failing, by_passing}
use Rattle.ssu_ir.proofs.single_use.operands_bound.Goals as goal

pub all_bound-requires : goal.all_bound-requires
all_bound-requires c = c.requires

pub returns-else-all_bound : goal.returns-else-all_bound
returns-else-all_bound c = c.if-all_bound.false ∙ (by_failing _ _ _ (sym c.all_bound.ensures ∙ c.if-all_bound.false) (sym (list_all-append (is_bound c.args.l.now.params.items (tree_at c.args.s.now.nodes.slots c.args.l.now.body.0)) c.operands.result.0.now c.operands.result.1.now) ∙ ap (list_all (is_bound c.args.l.now.params.items (tree_at c.args.s.now.nodes.slots c.args.l.now.body.0))) c.operands.ensures))

pub all_bound-requires-then-all_bound : goal.all_bound-requires-then-all_bound
all_bound-requires-then-all_bound c = c.requires

pub returns-then-all_bound : goal.returns-then-all_bound
returns-then-all_bound c = by_passing _ _ _ _ (sym c.all_bound.ensures ∙ c.if-all_bound.true) c.all_bound-then-all_bound.ensures (sym (list_all-append (is_bound c.args.l.now.params.items (tree_at c.args.s.now.nodes.slots c.args.l.now.body.0)) c.operands.result.0.now c.operands.result.1.now) ∙ ap (list_all (is_bound c.args.l.now.params.items (tree_at c.args.s.now.nodes.slots c.args.l.now.body.0))) c.operands.ensures)
