use Rattle.std.proofs.Common.{◌∙◌, refl, sym, None}
use Rattle.ssu_ir.specs.inner.Checks.{addressed}
use Rattle.ssu_ir.specs.inner.Under.{tree_at}
use Rattle.ssu_ir.proofs.Searches.{by_failing, by_passing}
use Rattle.ssu_ir.proofs.single_use.is_bound.Goals as goal

pub is_known-requires : goal.is_known-requires
is_known-requires c = c.requires

pub returns-else-is_known : goal.returns-else-is_known
returns-else-is_known c = c.if-is_known.false ∙ (by_failing _ (addressed None c.args.x (tree_at c.args.s.now.nodes.slots c.args.l.now.body.0)) _ (sym c.is_known.ensures ∙ c.if-is_known.false) refl)

pub addressed-requires : goal.addressed-requires
addressed-requires c = c.requires

pub returns-then-is_known : goal.returns-then-is_known
returns-then-is_known c = by_passing _ (addressed None c.args.x (tree_at c.args.s.now.nodes.slots c.args.l.now.body.0)) _ _ (sym c.is_known.ensures ∙ c.if-is_known.true) c.addressed.ensures refl
