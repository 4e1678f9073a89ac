use Rattle.std.proofs.Common.{◌≡◌, ◌∙◌, ap, sym, true, false, rules}
use Rattle.nv_types_table.proofs.FieldLists.{is_none_cell, empty_row, empty_list}
use Rattle.nv_types_table.proofs.table.Table.is_empty.Goals as goal

pub returns-in-Some-NoFields-clause-cells : goal.returns-in-Some-NoFields-clause-cells
returns-in-Some-NoFields-clause-cells c =
    let none : is_none_cell c.cell.result ≡ true = search rules in
    λ ps h. sym (ap is_none_cell (sym c.cell.ensures.value) ∙ none) ∙ empty_row c.args.self.now c.cell.ensures.store c.args.fields ps h

pub returns-in-Some-NoFields-clause-forms : goal.returns-in-Some-NoFields-clause-forms
returns-in-Some-NoFields-clause-forms c =
    let none : is_none_cell c.cell.result ≡ true = search rules in
    λ fs h. sym (ap is_none_cell (sym c.cell.ensures.value) ∙ none) ∙ empty_list c.args.self.now c.cell.ensures.store c.args.fields fs h

pub returns-in_default : goal.returns-in_default
returns-in_default c =
    let other : is_none_cell c.cell.result ≡ false = search rules in
    let is = sym (ap is_none_cell (sym c.cell.ensures.value) ∙ other) in
    record {
      cells = λ ps h. is ∙ empty_row c.args.self.now c.cell.ensures.store c.args.fields ps h;
      forms = λ fs h. is ∙ empty_list c.args.self.now c.cell.ensures.store c.args.fields fs h;
      store = c.cell.ensures.store;
    }

pub returns-in_default-2-clause-cells : goal.returns-in_default-2-clause-cells
returns-in_default-2-clause-cells c =
    let other : is_none_cell c.cell.result ≡ false = search rules in
    λ ps h. sym (ap is_none_cell (sym c.cell.ensures.value) ∙ other) ∙ empty_row c.args.self.now c.cell.ensures.store c.args.fields ps h

pub returns-in_default-2-clause-forms : goal.returns-in_default-2-clause-forms
returns-in_default-2-clause-forms c =
    let other : is_none_cell c.cell.result ≡ false = search rules in
    λ fs h. sym (ap is_none_cell (sym c.cell.ensures.value) ∙ other) ∙ empty_list c.args.self.now c.cell.ensures.store c.args.fields fs h
