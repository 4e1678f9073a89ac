use Rattle.std.proofs.Common.{◌≡◌, ◌∙◌, ◌++◌, ◌∷◌, [], ap, sym, subst, false, List, length, slice_get}
use Rattle.std.specs.List.{list_any}
use Rattle.nv_types_table.specs.declared.table.Cell.{Cell}
use Rattle.nv_types_table.specs.declared.table.Facts.{Facts}
use Rattle.nv_types_table.specs.contracts.table.CellPartialEq.TheImpl.{eq-value}
use Rattle.nv_types_table.specs.inner.Cells.{AreBelow, IsTable, cell_facts}
use Rattle.nv_types_table.specs.inner.Named.{plain_names}
use Rattle.nv_types_table.specs.inner.Store.{Store, Extends}
use Rattle.nv_types_table.proofs.Growing.{get_last, IsTable-push, Extends-cells}
use Rattle.nv_types_table.proofs.Found.{was_ok, found_cell, absent_cell, inserted_cell}
use Rattle.nv_types_table.proofs.table.Table.number.Goals as goal

pub returns-in-Some-clause-there : goal.returns-in-Some-clause-there
returns-in-Some-clause-there c =
    ap (λ (s : Store). slice_get s.cells c.in-Some.i) (sym c.self.view_is) ∙ found_cell c.self.inside.cells.keys c.args.cell c.in-Some.i (sym c.in-Some.ensures.index)

pub invariant_of-self-else-is_err : goal.invariant_of-self-else-is_err
invariant_of-self-else-is_err c =
    let cells = c.self.inside.cells.keys in
    let facts = c.self.inside.facts.items in
    let none : list_any (eq-value.it c.args.cell) c.self.inside.cells.keys ≡ false = sym c.in_default.ensures.found in
    let pushed = inserted_cell cells c.insert.new.self.keys c.args.cell none (was_ok c.insert.result _ (sym c.if-is_err.ensures.value) c.insert.ensures.keys) in
    let known : c.push.new.self.items ≡ c.self.inside.facts.items ++ cell_facts c.self.inside.facts.items c.args.cell ∷ [] =
    c.in_ok-push.ensures.items ∙ ap (λ f. facts ++ f ∷ []) (c.cell_facts.ensures ∙ ap (λ fs. cell_facts fs c.args.cell) c.deref.ensures.value) in
    let below : AreBelow (length c.self.inside.cells.keys) c.args.cell = subst (λ (s : Store). AreBelow (length s.cells) c.args.cell) (sym c.self.view_is) c.requires.below in
    subst (λ (l : List Cell). IsTable (plain_names c.self.inside.names.keys) l c.push.new.self.items) (sym pushed)
    (subst (λ (l : List Facts). IsTable (plain_names c.self.inside.names.keys) (cells ++ c.args.cell ∷ []) l) (sym known)
    (IsTable-push (plain_names c.self.inside.names.keys) cells facts c.args.cell c.self.invariant below (absent_cell cells c.args.cell none)))

pub returns-clause-there : goal.returns-clause-there
returns-clause-there c =
    let cells = c.self.inside.cells.keys in
    let none : list_any (eq-value.it c.args.cell) c.self.inside.cells.keys ≡ false = sym c.in_default.ensures.found in
    let pushed = inserted_cell cells c.insert.new.self.keys c.args.cell none (was_ok c.insert.result _ (sym c.if-is_err.ensures.value) c.insert.ensures.keys) in
    ap (λ l. slice_get l c.len-i.result) pushed ∙ ap (slice_get (cells ++ c.args.cell ∷ [])) c.len-i.ensures.len ∙ get_last cells c.args.cell

pub returns-clause-grows : goal.returns-clause-grows
returns-clause-grows c =
    let cells = c.self.inside.cells.keys in
    let none : list_any (eq-value.it c.args.cell) c.self.inside.cells.keys ≡ false = sym c.in_default.ensures.found in
    let pushed = inserted_cell cells c.insert.new.self.keys c.args.cell none (was_ok c.insert.result _ (sym c.if-is_err.ensures.value) c.insert.ensures.keys) in
    subst (λ (s : Store). Extends s (record { names = plain_names c.self.inside.names.keys; cells = c.insert.new.self.keys })) c.self.view_is
    (subst (λ (l : List Cell). Extends (record { names = plain_names c.self.inside.names.keys; cells = cells }) (record { names = plain_names c.self.inside.names.keys; cells = l })) (sym pushed)
    (Extends-cells (plain_names c.self.inside.names.keys) cells (c.args.cell ∷ [])))
