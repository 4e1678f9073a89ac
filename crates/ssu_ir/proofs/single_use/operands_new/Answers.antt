use Rattle.std.proofs.Common.{◌∙◌, sym, ap, not}
use Rattle.std.specs.List.{list_all}
use Rattle.std.proofs.lemmas.List.Folds.{list_all-append}
use Rattle.nv_base.specs.Sets.{is_in}
use Rattle.ssu_ir.specs.Single.{names}
use Rattle.ssu_ir.specs.inner.Under.{tree_at}
use Rattle.ssu_ir.proofs.Searches.{by_failing, by_passing}
use Rattle.ssu_ir.proofs.single_use.operands_new.Goals as goal

pub none_mentioned-requires : goal.none_mentioned-requires
none_mentioned-requires c = c.requires

pub returns-else-none_mentioned : goal.returns-else-none_mentioned
returns-else-none_mentioned c = c.if-none_mentioned.false ∙ (by_failing _ _ _ (sym c.none_mentioned.ensures ∙ c.if-none_mentioned.false) (sym (list_all-append (λ x. not (is_in x (names (tree_at c.args.s.now.nodes.slots c.args.k.0)))) c.operands.result.0.now c.operands.result.1.now) ∙ ap (list_all (λ x. not (is_in x (names (tree_at c.args.s.now.nodes.slots c.args.k.0))))) c.operands.ensures))

pub none_mentioned-requires-then-none_mentioned : goal.none_mentioned-requires-then-none_mentioned
none_mentioned-requires-then-none_mentioned c = c.requires

pub returns-then-none_mentioned : goal.returns-then-none_mentioned
returns-then-none_mentioned c = by_passing _ _ _ _ (sym c.none_mentioned.ensures ∙ c.if-none_mentioned.true) c.none_mentioned-then-none_mentioned.ensures (sym (list_all-append (λ x. not (is_in x (names (tree_at c.args.s.now.nodes.slots c.args.k.0)))) c.operands.result.0.now c.operands.result.1.now) ∙ ap (list_all (λ x. not (is_in x (names (tree_at c.args.s.now.nodes.slots c.args.k.0))))) c.operands.ensures)
