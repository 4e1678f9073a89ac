use Rattle.std.proofs.Common.{◌∙◌, refl, sym, ap, not}
use Rattle.nv_base.specs.Sets.{is_in}
use Rattle.ssu_ir.specs.inner.Checks.{is_free}
use Rattle.ssu_ir.specs.inner.Under.{tree_at}
use Rattle.ssu_ir.proofs.Searches.{by_first, by_second}
use Rattle.ssu_ir.proofs.single_use.is_known.Goals as goal

pub returns-then-has : goal.returns-then-has
returns-then-has c = c.if-has.true ∙ (by_first (is_in c.args.x c.args.l.now.params.items) (not (is_free c.args.x (tree_at c.args.s.now.nodes.slots c.args.l.now.body.0))) _ (sym (c.has.ensures ∙ ap (is_in c.args.x) c.deref.ensures.value) ∙ c.if-has.true) refl)

pub is_free-requires : goal.is_free-requires
is_free-requires c = c.requires

pub returns-else-has : goal.returns-else-has
returns-else-has c = by_second (is_in c.args.x c.args.l.now.params.items) (not (is_free c.args.x (tree_at c.args.s.now.nodes.slots c.args.l.now.body.0))) _ _ (sym (c.has.ensures ∙ ap (is_in c.args.x) c.deref.ensures.value) ∙ c.if-has.false) (ap not c.is_free.ensures) refl
