use Rattle.std.proofs.Common.{ap}
use Rattle.nv_ast.specs.LayoutView.{layout_tree}
use Rattle.nv_meaning_values.specs.inner.Tables.{is_alias}
use Rattle.nv_meaning_values.proofs.table.alias.Goals as goal

pub returns-in-Named : goal.returns-in-Named
returns-in-Named c = ap layout_tree c.in-Named.is

pub returns-in-Gap : goal.returns-in-Gap
returns-in-Gap c = ap (λ l. is_alias (layout_tree l)) c.in-Gap.is

pub returns-in-Parts : goal.returns-in-Parts
returns-in-Parts c = ap (λ l. is_alias (layout_tree l)) c.in-Parts.is

pub returns-in-Joined : goal.returns-in-Joined
returns-in-Joined c = ap (λ l. is_alias (layout_tree l)) c.in-Joined.is
