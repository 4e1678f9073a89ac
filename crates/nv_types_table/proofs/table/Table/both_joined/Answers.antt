use Rattle.nv_types_table.proofs.Staying.{fields_stay, forms_stay}
use Rattle.nv_types_table.proofs.table.Table.both_joined.Goals as goal

pub returns-clause-of_forms : goal.returns-clause-of_forms
returns-clause-of_forms c = λ fs gs h k.
    forms_stay c.joined.new.self c.joined-2.new.self c.in_ok-types.ensures.grows c.in_ok-forms.forms _ (c.in_ok-forms.ensures.of_forms fs gs h k)

pub returns-clause-of_types : goal.returns-clause-of_types
returns-clause-of_types c = λ ts us h k.
    let a = c.args.self.now in
    let m = c.joined.new.self in
    let grows = c.in_ok-forms.ensures.grows in
    c.in_ok-types.ensures.of_fields ts us (fields_stay a m grows c.args.first.1 ts h) (fields_stay a m grows c.args.second.1 us k)
