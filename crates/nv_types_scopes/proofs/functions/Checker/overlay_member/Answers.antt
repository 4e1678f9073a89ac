use Rattle.nv_ast.specs.Types.{ChoiceForm, forms_of, unpacked_all}
use Rattle.nv_types_table.specs.inner.Named.{named}
use Rattle.nv_types_table.proofs.Growing.{Extends-trans}
use Rattle.nv_types_table.proofs.Staying.{fields_stay, form_stays, forms_stay}
use Rattle.nv_types_scopes.proofs.Holding.{Keeps-trans, Keeps-table}
use Rattle.nv_types_scopes.proofs.Shaping.{members_stay}
use Rattle.nv_types_scopes.proofs.functions.Checker.overlay_member.Goals as goal

pub returns-clause-made : goal.returns-clause-made
returns-clause-made c = λ os h.
    let a = c.args.self.now.table in
    let b = c.forms_of.new.self.table in
    let d = c.types_of.new.self.table in
    let e = c.choice.new.self in
    let f = c.record_of.new.self in
    let grows = c.in_ok-types.ensures.keeps.declared.grows in
    c.overlay_of.ensures a f os h
    (form_stays e f c.in_ok-unpacked.ensures.grows c.in_ok-form.form (ChoiceForm (forms_of os)) (c.in_ok-form.ensures.form (forms_of os) (forms_stay b d grows c.in_ok-forms.forms (forms_of os) (c.in_ok-forms.ensures.made os h))))
    (c.in_ok-unpacked.ensures.made (unpacked_all (forms_of os)) (fields_stay d e c.in_ok-form.ensures.grows c.in_ok-types.types (unpacked_all (forms_of os)) (c.in_ok-types.ensures.made os (members_stay a b c.in_ok-forms.ensures.keeps.declared.grows (named c.args.members.now) os h))))

pub returns-clause-forms : goal.returns-clause-forms
returns-clause-forms c = λ os h.
    let b = c.forms_of.new.self.table in
    let d = c.types_of.new.self.table in
    let grows = c.in_ok-types.ensures.keeps.declared.grows in
    let more = Extends-trans d c.choice.new.self c.record_of.new.self c.in_ok-form.ensures.grows c.in_ok-unpacked.ensures.grows in
    forms_stay b c.record_of.new.self (Extends-trans b d c.record_of.new.self grows more) c.in_ok-forms.forms (forms_of os) (c.in_ok-forms.ensures.made os h)

pub returns-clause-keeps : goal.returns-clause-keeps
returns-clause-keeps c =
    let more = Extends-trans c.types_of.new.self.table c.choice.new.self c.record_of.new.self c.in_ok-form.ensures.grows c.in_ok-unpacked.ensures.grows in
    Keeps-trans c.args.self.now c.types_of.new.self _ (Keeps-trans c.args.self.now c.forms_of.new.self c.types_of.new.self c.in_ok-forms.ensures.keeps c.in_ok-types.ensures.keeps) (Keeps-table c.types_of.new.self c.record_of.new.self more)
