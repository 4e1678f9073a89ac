use Rattle.std.proofs.Common.{◌∙◌, ◌++◌, ap}
use Rattle.nv_types_table.specs.inner.Rows.{leaves}
use Rattle.nv_types_table.proofs.FieldLists.{row_stands}
use Rattle.nv_types_table.proofs.table.Table.fields_in.Goals as goal

pub returns-clause-cells : goal.returns-clause-cells
returns-clause-cells c = λ ps h.
    let v = row_stands c.args.self.now c.args.fields c.is_empty.result c.is_empty.ensures.cells c.if-is_empty.false ps h in
    c.in_ok-add_fields.ensures.cells v.tree v.stands ∙ ap (λ l. l ++ leaves v.tree) c.new-found.ensures.items ∙ v.fields
