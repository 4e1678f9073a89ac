use Rattle.std.proofs.Common.{◌≡◌, ◌∙◌, ◌++◌, ◌∷◌, [], ap, sym, subst, false, cond, eqb, Some, slice_get, arith, rules}
use Rattle.std.specs.List.{list_any}
use Rattle.std.specs.Result.{IfOk}
use Rattle.nv_ast.specs.Tests.{has_twice}
use Rattle.nv_types_table.specs.declared.table.Cell.TheVariants.{Field, Both}
use Rattle.nv_types_table.specs.inner.Store.{AreSeen}
use Rattle.nv_types_table.proofs.FieldLists.{is_tree_cell, stands_other}
use Rattle.nv_types_table.proofs.FieldWalks.{meets_one, seen_one, meets_left, meets_right}
use Rattle.nv_types_table.proofs.table.Table.+meets_in.Goals as goal
use Rattle.nv_types_table.proofs.Found.{turned_back}

pub meets_in-requires : goal.meets_in-requires
meets_in-requires t c =
    let at : slice_get c.args.self.now.cells c.args.list ≡ Some (Both c.in-Some-Both.left c.in-Some-Both.right) = cc in
    let less = c.cell.ensures.store.below c.args.list (Both c.in-Some-Both.left c.in-Some-Both.right) at in
    (omega (arith, c.decreases, less.0), tt)

pub meets_in-requires-in-Some-Both : goal.meets_in-requires-in-Some-Both
meets_in-requires-in-Some-Both t c =
    let at : slice_get c.args.self.now.cells c.args.list ≡ Some (Both c.in-Some-Both.left c.in-Some-Both.right) = cc in
    let less = c.cell.ensures.store.below c.args.list (Both c.in-Some-Both.left c.in-Some-Both.right) at in
    (omega (arith, c.decreases, less.1), tt)

pub returns-in_ok-insert-in-Some-Field-clause-meets : goal.returns-in_ok-insert-in-Some-Field-clause-meets
returns-in_ok-insert-in-Some-Field-clause-meets t c = λ u xs names before h k.
    let at : slice_get c.args.self.now.cells c.args.list ≡ Some (Field c.in-Some-Field.name c.in-Some-Field.field-0-1) = cc in
    sym (turned_back (list_any (eqb c.in-Some-Field.name) c.args.seen.now.keys) c.in_ok-insert-in-Some-Field.field-0 c.in_ok-insert-in-Some-Field.ensures.added)
    ∙ meets_one c.args.self.now c.args.list c.in-Some-Field.name c.in-Some-Field.field-0-1 at c.args.seen.now.keys u xs names before h k

pub returns-in_ok-insert-in-Some-Field-clause-seen : goal.returns-in_ok-insert-in-Some-Field-clause-seen
returns-in_ok-insert-in-Some-Field-clause-seen t c = λ u xs names before h k new.
    let at : slice_get c.args.self.now.cells c.args.list ≡ Some (Field c.in-Some-Field.name c.in-Some-Field.field-0-1) = cc in
    let old = c.args.seen.now.keys in
    let absent : list_any (eqb c.in-Some-Field.name) old ≡ false = turned_back (list_any (eqb c.in-Some-Field.name) old) c.in_ok-insert-in-Some-Field.field-0 c.in_ok-insert-in-Some-Field.ensures.added ∙ new in
    let keys = c.in_ok-insert-in-Some-Field.ensures.keys ∙ ap (λ b. cond b old (old ++ c.in-Some-Field.name ∷ [])) absent in
    subst (λ l. AreSeen c.args.self.now l (xs ++ names)) (sym keys)
    (seen_one c.args.self.now c.cell.ensures.store c.args.list c.in-Some-Field.name c.in-Some-Field.field-0-1 at old absent u xs names before h k)

pub returns-then-branch-clause-meets : goal.returns-then-branch-clause-meets
returns-then-branch-clause-meets t c =
    let at : slice_get c.args.self.now.cells c.args.list ≡ Some (Both c.in-Some-Both.left c.in-Some-Both.right) = cc in
    meets_left c.args.self.now c.args.list c.in-Some-Both.left c.in-Some-Both.right at c.args.seen.now.keys c.in_ok-meets_in-in-Some-Both.field-0 c.in_ok-meets_in-in-Some-Both.ensures.meets c.if-branch.true

pub returns-else-branch-clause-meets : goal.returns-else-branch-clause-meets
returns-else-branch-clause-meets t c =
    let at : slice_get c.args.self.now.cells c.args.list ≡ Some (Both c.in-Some-Both.left c.in-Some-Both.right) = cc in
    meets_right c.args.self.now c.args.list c.in-Some-Both.left c.in-Some-Both.right at c.args.seen.now.keys c.meets_in.new.seen.keys c.in_ok-meets_in-in-Some-Both.field-0 c.in_ok-meets_in-in-Some-Both.ensures.seen c.if-branch.false
    (λ l. IfOk c.meets_in-in-Some-Both.result (λ b. b ≡ has_twice l)) c.meets_in-in-Some-Both.ensures.meets

pub returns-else-branch-clause-seen : goal.returns-else-branch-clause-seen
returns-else-branch-clause-seen t c =
    let at : slice_get c.args.self.now.cells c.args.list ≡ Some (Both c.in-Some-Both.left c.in-Some-Both.right) = cc in
    meets_right c.args.self.now c.args.list c.in-Some-Both.left c.in-Some-Both.right at c.args.seen.now.keys c.meets_in.new.seen.keys c.in_ok-meets_in-in-Some-Both.field-0 c.in_ok-meets_in-in-Some-Both.ensures.seen c.if-branch.false
    (λ l. IfOk c.meets_in-in-Some-Both.result (λ b. b ≡ false → AreSeen c.args.self.now c.meets_in-in-Some-Both.new.seen.keys l)) c.meets_in-in-Some-Both.ensures.seen

pub returns-in_default : goal.returns-in_default
returns-in_default t c =
    let other : is_tree_cell c.cell.result ≡ false = search rules in
    let none = stands_other c.args.self.now c.args.list (ap is_tree_cell (sym c.cell.ensures.value) ∙ other) in
    record { meets = λ u xs names before h k. absurd (none u h); seen = λ u xs names before h k e. absurd (none u h) }

pub returns-in_default-2-clause-meets : goal.returns-in_default-2-clause-meets
returns-in_default-2-clause-meets t c = λ u xs names before h k. absurd (stands_other c.args.self.now c.args.list (ap is_tree_cell (sym c.cell.ensures.value ∙ c.in_default.is)) u h)

pub returns-in_default-2-clause-seen : goal.returns-in_default-2-clause-seen
returns-in_default-2-clause-seen t c = λ u xs names before h k e. absurd (stands_other c.args.self.now c.args.list (ap is_tree_cell (sym c.cell.ensures.value ∙ c.in_default.is)) u h)
