use Rattle.std.proofs.Common.{◌≡◌, ◌∙◌, ap, sym, false, Some, slice_get, arith, rules}
use Rattle.nv_types_table.specs.declared.table.Cell.TheVariants.{Field, Both}
use Rattle.nv_types_table.proofs.FieldLists.{is_tree_cell}
use Rattle.nv_types_table.proofs.FieldWalks.{cells_one, cells_none, cells_both, below_one}
use Rattle.nv_types_table.proofs.table.Table.+add_fields.Goals as goal

pub add_fields-requires : goal.add_fields-requires
add_fields-requires t c =
    let at : slice_get c.args.self.now.cells c.args.list ≡ Some (Both c.in-Some-Both.left c.in-Some-Both.right) = cc in
    let less = c.cell.ensures.store.below c.args.list (Both c.in-Some-Both.left c.in-Some-Both.right) at in
    (omega (arith, c.decreases, less.0), tt)

pub add_fields-requires-in-Some-Both : goal.add_fields-requires-in-Some-Both
add_fields-requires-in-Some-Both t c =
    let at : slice_get c.args.self.now.cells c.args.list ≡ Some (Both c.in-Some-Both.left c.in-Some-Both.right) = cc in
    let less = c.cell.ensures.store.below c.args.list (Both c.in-Some-Both.left c.in-Some-Both.right) at in
    (omega (arith, c.decreases, less.1), tt)

pub returns-in_ok-push-in-Some-Field-clause-cells : goal.returns-in_ok-push-in-Some-Field-clause-cells
returns-in_ok-push-in-Some-Field-clause-cells t c =
    let at : slice_get c.args.self.now.cells c.args.list ≡ Some (Field c.in-Some-Field.name c.in-Some-Field.t) = cc in
    cells_one c.args.self.now c.args.list c.in-Some-Field.name c.in-Some-Field.t at c.args.found.now.items c.push.new.self.items c.in_ok-push-in-Some-Field.ensures.items

pub returns-in_ok-push-in-Some-Field-clause-below : goal.returns-in_ok-push-in-Some-Field-clause-below
returns-in_ok-push-in-Some-Field-clause-below t c =
    let at : slice_get c.args.self.now.cells c.args.list ≡ Some (Field c.in-Some-Field.name c.in-Some-Field.t) = cc in
    let less = c.cell.ensures.store.below c.args.list (Field c.in-Some-Field.name c.in-Some-Field.t) at in
    λ n le all. below_one n c.in-Some-Field.name c.in-Some-Field.t c.args.found.now.items c.push.new.self.items c.in_ok-push-in-Some-Field.ensures.items (omega (arith, less, le)) all

pub returns-in_ok-add_fields-in-Some-Both-clause-cells : goal.returns-in_ok-add_fields-in-Some-Both-clause-cells
returns-in_ok-add_fields-in-Some-Both-clause-cells t c =
    let at : slice_get c.args.self.now.cells c.args.list ≡ Some (Both c.in-Some-Both.left c.in-Some-Both.right) = cc in
    cells_both c.args.self.now c.args.list c.in-Some-Both.left c.in-Some-Both.right at c.add_fields-in-Some-Both.result c.args.found.now.items c.add_fields.new.found.items c.add_fields-in-Some-Both.new.found.items
    c.in_ok-add_fields-in-Some-Both.ensures.cells c.add_fields-in-Some-Both.ensures.cells

pub returns-in_ok-add_fields-in-Some-Both-clause-below : goal.returns-in_ok-add_fields-in-Some-Both-clause-below
returns-in_ok-add_fields-in-Some-Both-clause-below t c =
    let at : slice_get c.args.self.now.cells c.args.list ≡ Some (Both c.in-Some-Both.left c.in-Some-Both.right) = cc in
    let less = c.cell.ensures.store.below c.args.list (Both c.in-Some-Both.left c.in-Some-Both.right) at in
    λ n le all. c.add_fields-in-Some-Both.ensures.below n (omega (arith, less.1, le)) (c.in_ok-add_fields-in-Some-Both.ensures.below n (omega (arith, less.0, le)) all)

pub returns-in_default : goal.returns-in_default
returns-in_default t c =
    let other : is_tree_cell c.cell.result ≡ false = search rules in
    record { cells = cells_none c.args.self.now c.args.list (ap is_tree_cell (sym c.cell.ensures.value) ∙ other) c.args.found.now.items; below = λ n le all. all }

pub returns-in_default-2-clause-cells : goal.returns-in_default-2-clause-cells
returns-in_default-2-clause-cells t c = cells_none c.args.self.now c.args.list (ap is_tree_cell (sym c.cell.ensures.value ∙ c.in_default.is)) c.args.found.now.items
