use Rattle.std.proofs.Common.{◌∙◌, ap}
use Rattle.nv_types_table.specs.inner.Rows.{field_with}
use Rattle.nv_types_table.proofs.FieldLists.{row_stands}
use Rattle.nv_types_table.proofs.record_fields.field_in.Goals as goal

pub returns-clause-found : goal.returns-clause-found
returns-clause-found c = λ ps h.
    let v = row_stands c.args.table.now c.args.fields c.is_empty.result c.is_empty.ensures.cells c.if-is_empty.false ps h in
    c.find_in.ensures.found v.tree v.stands ∙ ap (field_with c.args.name) v.fields
