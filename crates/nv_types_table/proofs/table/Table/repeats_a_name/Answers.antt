use Rattle.std.proofs.Common.{[], sym, subst}
use Rattle.nv_types_table.specs.inner.Store.{AreSeen, field_names, form_names}
use Rattle.nv_types_table.proofs.FieldWalks.{seen_none, fields_named, forms_named}
use Rattle.nv_types_table.proofs.table.Table.repeats_a_name.Goals as goal

pub returns-clause-of_fields : goal.returns-clause-of_fields
returns-clause-of_fields c = λ ts h.
    c.meets_a_name.ensures.meets [] (field_names ts) (subst (λ l. AreSeen c.args.self.now l []) (sym c.new.ensures.empty) (seen_none c.args.self.now)) (fields_named c.args.self.now c.args.fields ts h)

pub returns-clause-of_forms : goal.returns-clause-of_forms
returns-clause-of_forms c = λ fs h.
    c.meets_a_name.ensures.meets [] (form_names fs) (subst (λ l. AreSeen c.args.self.now l []) (sym c.new.ensures.empty) (seen_none c.args.self.now)) (forms_named c.args.self.now c.args.fields fs h)
