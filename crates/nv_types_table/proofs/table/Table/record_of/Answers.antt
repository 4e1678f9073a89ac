use Rattle.nv_types_table.proofs.Making.{made_record, made_record_form}
use Rattle.nv_types_table.proofs.There.{same_fields, same_forms}
use Rattle.nv_types_table.proofs.table.Table.record_of.Goals as goal

pub returns-clause-made : goal.returns-clause-made
returns-clause-made c = λ ts h.
    made_record c.args.self.now _ c.number.result _ c.number.ensures.there c.number.ensures.grows ts (same_fields c.args.self.now c.part_number-fields.ensures.store c.args.fields _ c.part_number-fields.ensures.same ts h)

pub returns-clause-form : goal.returns-clause-form
returns-clause-form c = λ fs h.
    made_record_form c.args.self.now _ c.number.result _ c.number.ensures.there c.number.ensures.grows fs (same_forms c.args.self.now c.part_number-fields.ensures.store c.args.fields _ c.part_number-fields.ensures.same fs h)
