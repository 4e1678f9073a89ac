use Rattle.std.proofs.Common.{◌≡◌, ◌∙◌, ap, sym, false, Some, slice_get, arith, rules}
use Rattle.std.proofs.lemmas.Bool.{eq-eqb, ne_eqb}
use Rattle.nv_types_table.specs.declared.table.Cell.TheVariants.{Field, Both}
use Rattle.nv_types_table.proofs.FieldLists.{is_tree_cell, stands_other}
use Rattle.nv_types_table.proofs.FieldWalks.{found_here, found_other, found_left, found_right, found_below}
use Rattle.nv_types_table.proofs.record_fields.+find_in.Goals as goal

pub find_in-requires : goal.find_in-requires
find_in-requires t c =
    let at : slice_get c.args.table.now.cells c.args.list ≡ Some (Both c.in-Some-Both.left c.in-Some-Both.right) = cc in
    let less = c.cell.ensures.store.below c.args.list (Both c.in-Some-Both.left c.in-Some-Both.right) at in
    (omega (arith, c.decreases, less.0), tt)

pub find_in-requires-in-None : goal.find_in-requires-in-None
find_in-requires-in-None t c =
    let at : slice_get c.args.table.now.cells c.args.list ≡ Some (Both c.in-Some-Both.left c.in-Some-Both.right) = cc in
    let less = c.cell.ensures.store.below c.args.list (Both c.in-Some-Both.left c.in-Some-Both.right) at in
    (omega (arith, c.decreases, less.1), tt)

pub returns-then-x-name-clause-found : goal.returns-then-x-name-clause-found
returns-then-x-name-clause-found t c =
    let at : slice_get c.args.table.now.cells c.args.list ≡ Some (Field c.in-Some-Field.x c.in-Some-Field.t) = cc in
    found_here c.args.table.now c.args.list c.in-Some-Field.x c.in-Some-Field.t c.args.name at (eq-eqb c.in-Some-Field.x c.args.name c.if-x-name.true)

pub returns-then-x-name-clause-below : goal.returns-then-x-name-clause-below
returns-then-x-name-clause-below t c =
    let at : slice_get c.args.table.now.cells c.args.list ≡ Some (Field c.in-Some-Field.x c.in-Some-Field.t) = cc in
    c.cell.ensures.store.below c.args.list (Field c.in-Some-Field.x c.in-Some-Field.t) at

pub returns-else-x-name-clause-found : goal.returns-else-x-name-clause-found
returns-else-x-name-clause-found t c =
    let at : slice_get c.args.table.now.cells c.args.list ≡ Some (Field c.in-Some-Field.x c.in-Some-Field.t) = cc in
    found_other c.args.table.now c.args.list c.in-Some-Field.x c.in-Some-Field.t c.args.name at (ne_eqb c.in-Some-Field.x c.args.name c.if-x-name.false)

pub returns-in-Some-clause-found : goal.returns-in-Some-clause-found
returns-in-Some-clause-found t c =
    let at : slice_get c.args.table.now.cells c.args.list ≡ Some (Both c.in-Some-Both.left c.in-Some-Both.right) = cc in
    found_left c.args.table.now c.args.list c.in-Some-Both.left c.in-Some-Both.right c.args.name c.in-Some.t at c.in-Some.ensures.found

pub returns-in-Some-clause-below : goal.returns-in-Some-clause-below
returns-in-Some-clause-below t c =
    let at : slice_get c.args.table.now.cells c.args.list ≡ Some (Both c.in-Some-Both.left c.in-Some-Both.right) = cc in
    let less = c.cell.ensures.store.below c.args.list (Both c.in-Some-Both.left c.in-Some-Both.right) at in
    omega (arith, c.in-Some.ensures.below, less.0)

pub returns-in-None-clause-found : goal.returns-in-None-clause-found
returns-in-None-clause-found t c =
    let at : slice_get c.args.table.now.cells c.args.list ≡ Some (Both c.in-Some-Both.left c.in-Some-Both.right) = cc in
    found_right c.args.table.now c.args.list c.in-Some-Both.left c.in-Some-Both.right c.args.name c.find_in-in-None.result at c.in-None.ensures.found c.find_in-in-None.ensures.found

pub returns-in-None-clause-below : goal.returns-in-None-clause-below
returns-in-None-clause-below t c =
    let at : slice_get c.args.table.now.cells c.args.list ≡ Some (Both c.in-Some-Both.left c.in-Some-Both.right) = cc in
    let less = c.cell.ensures.store.below c.args.list (Both c.in-Some-Both.left c.in-Some-Both.right) at in
    found_below c.find_in-in-None.result c.in-Some-Both.right c.args.list less.1 c.find_in-in-None.ensures.below

pub returns-in_default : goal.returns-in_default
returns-in_default t c =
    let other : is_tree_cell c.cell.result ≡ false = search rules in
    record { found = λ u h. absurd (stands_other c.args.table.now c.args.list (ap is_tree_cell (sym c.cell.ensures.value) ∙ other) u h); below = tt }

pub returns-in_default-2-clause-found : goal.returns-in_default-2-clause-found
returns-in_default-2-clause-found t c = λ u h. absurd (stands_other c.args.table.now c.args.list (ap is_tree_cell (sym c.cell.ensures.value ∙ c.in_default.is)) u h)
