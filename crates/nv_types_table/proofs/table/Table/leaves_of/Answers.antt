use Rattle.std.proofs.Common.{◌∙◌, ◌++◌, ap, sym, subst}
use Rattle.nv_types_table.specs.inner.Lists.{AreOnes}
use Rattle.nv_types_table.proofs.FieldLists.{row_stands}
use Rattle.nv_types_table.proofs.table.Table.leaves_of.Goals as goal

pub returns : goal.returns
returns c = λ ps h.
    let v = row_stands c.args.self.now c.args.list c.is_empty.result c.is_empty.ensures.cells c.if-is_empty.false ps h in
    let found = c.in_ok-add_leaves.ensures v.tree v.stands in
    let items = found.1 ∙ ap (λ l. l ++ found.0) c.new-found.ensures.items in
    subst (λ is. AreOnes c.args.self.now is ps) (sym items) (subst (AreOnes c.args.self.now found.0) v.fields found.2)
