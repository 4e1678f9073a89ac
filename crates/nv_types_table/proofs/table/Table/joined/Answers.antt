use Rattle.nv_types_table.proofs.Joining.{fields_after, forms_after, joined_rows, joined_fields, joined_forms}
use Rattle.nv_types_table.proofs.table.Table.joined.Goals as goal

pub returns-clause-of_fields : goal.returns-clause-of_fields
returns-clause-of_fields c =
    let a = c.args.self.now in
    let b = c.extended.new.self in
    joined_fields a b c.args.first c.args.second c.extended.result c.extended.ensures.grows
    (joined_rows a b c.args.first c.args.second c.in_ok-rows.last c.extended.result c.in_ok-rows.rows.items c.in_ok-behind.behind.items c.deref.result.now c.if-is_empty.ensures.cells c.deref.ensures.value c.in_ok-behind.ensures c.in_ok-rows.ensures
    c.extended.ensures.extended)

pub returns-clause-of_forms : goal.returns-clause-of_forms
returns-clause-of_forms c =
    let a = c.args.self.now in
    let b = c.extended.new.self in
    joined_forms a b c.args.first c.args.second c.extended.result c.extended.ensures.grows
    (joined_rows a b c.args.first c.args.second c.in_ok-rows.last c.extended.result c.in_ok-rows.rows.items c.in_ok-behind.behind.items c.deref.result.now c.if-is_empty.ensures.cells c.deref.ensures.value c.in_ok-behind.ensures c.in_ok-rows.ensures
    c.extended.ensures.extended)

pub returns-then-is_empty-clause-of_fields : goal.returns-then-is_empty-clause-of_fields
returns-then-is_empty-clause-of_fields c = fields_after c.args.self.now c.args.first c.args.second c.if-is_empty.ensures.cells

pub returns-then-is_empty-clause-of_forms : goal.returns-then-is_empty-clause-of_forms
returns-then-is_empty-clause-of_forms c = forms_after c.args.self.now c.args.first c.args.second c.if-is_empty.ensures.cells
