use Rattle.std.proofs.Common.{◌≡◌, ◌∙◌, ap, sym, false, Some, slice_get, arith, rules}
use Rattle.nv_types_table.specs.declared.table.Cell.TheVariants.{Field, Both}
use Rattle.nv_types_table.proofs.FieldLists.{is_tree_cell, stands_other}
use Rattle.nv_types_table.proofs.FieldWalks.{leaves_one, leaves_both}
use Rattle.nv_types_table.proofs.table.Table.+add_leaves.Goals as goal

pub add_leaves-requires : goal.add_leaves-requires
add_leaves-requires t c =
    let at : slice_get c.args.self.now.cells c.args.list ≡ Some (Both c.in-Some-Both.left c.in-Some-Both.right) = cc in
    let less = c.cell.ensures.store.below c.args.list (Both c.in-Some-Both.left c.in-Some-Both.right) at in
    (omega (arith, c.decreases, less.0), tt)

pub add_leaves-requires-in-Some-Both : goal.add_leaves-requires-in-Some-Both
add_leaves-requires-in-Some-Both t c =
    let at : slice_get c.args.self.now.cells c.args.list ≡ Some (Both c.in-Some-Both.left c.in-Some-Both.right) = cc in
    let less = c.cell.ensures.store.below c.args.list (Both c.in-Some-Both.left c.in-Some-Both.right) at in
    (omega (arith, c.decreases, less.1), tt)

pub returns-in_ok-push-in-Some-Field : goal.returns-in_ok-push-in-Some-Field
returns-in_ok-push-in-Some-Field t c =
    let at : slice_get c.args.self.now.cells c.args.list ≡ Some (Field c.in-Some-Field.field-0-0 c.in-Some-Field.field-0-1) = cc in
    leaves_one c.args.self.now c.args.list c.in-Some-Field.field-0-0 c.in-Some-Field.field-0-1 at c.args.found.now.items c.push.new.self.items c.in_ok-push-in-Some-Field.ensures.items

pub returns-in_ok-add_leaves-in-Some-Both : goal.returns-in_ok-add_leaves-in-Some-Both
returns-in_ok-add_leaves-in-Some-Both t c =
    let at : slice_get c.args.self.now.cells c.args.list ≡ Some (Both c.in-Some-Both.left c.in-Some-Both.right) = cc in
    leaves_both c.args.self.now c.args.list c.in-Some-Both.left c.in-Some-Both.right at c.add_leaves-in-Some-Both.result c.args.found.now.items c.add_leaves.new.found.items c.add_leaves-in-Some-Both.new.found.items
    c.in_ok-add_leaves-in-Some-Both.ensures c.add_leaves-in-Some-Both.ensures

pub returns-in_default : goal.returns-in_default
returns-in_default t c =
    let other : is_tree_cell c.cell.result ≡ false = search rules in
    λ u h. absurd (stands_other c.args.self.now c.args.list (ap is_tree_cell (sym c.cell.ensures.value) ∙ other) u h)

pub returns-in_default-2 : goal.returns-in_default-2
returns-in_default-2 t c = λ u h. absurd (stands_other c.args.self.now c.args.list (ap is_tree_cell (sym c.cell.ensures.value ∙ c.in_default.is)) u h)
