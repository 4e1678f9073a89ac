use Rattle.nv_types_table.specs.inner.Named.{named}
use Rattle.nv_types_table.proofs.Growing.{grows_after}
use Rattle.nv_types_table.proofs.RowMaking.{made_fields, made_forms}
use Rattle.nv_types_table.proofs.table.Table.fields_of.Goals as goal

pub returns-clause-made : goal.returns-clause-made
returns-clause-made c =
    made_fields c.args.self.now c.single_fields.new.self c.row.new.self (named c.args.types.now) c.in_ok-lists.lists.items c.deref.result.now c.row.result c.deref.ensures.value c.in_ok-lists.ensures.put c.row.ensures.row c.row.ensures.grows

pub returns-clause-forms : goal.returns-clause-forms
returns-clause-forms c =
    made_forms c.args.self.now c.single_fields.new.self c.row.new.self (named c.args.types.now) c.in_ok-lists.lists.items c.deref.result.now c.row.result c.deref.ensures.value c.in_ok-lists.ensures.put c.row.ensures.row c.row.ensures.grows

pub returns-clause-grows : goal.returns-clause-grows
returns-clause-grows c = grows_after c.args.self.now c.single_fields.new.self c.row.new.self c.row.result c.in_ok-lists.ensures.grows c.row.ensures.grows
