use Rattle.std.proofs.Common.{◌≡◌, ◌≤◌, ◌∙◌, ℕ, List, All, sym, ap, subst, inr, map, length, nat_eq, arith}
use Rattle.std.proofs.lemmas.List.{length-map}
use Rattle.std.specs.HashMap.{get}
use Rattle.std.specs.List.{AllZip}
use Rattle.ssu_ir.specs.Points.{points}
use Rattle.ssu_ir.specs.View.{labels_view}
use Rattle.ssu_liveness.specs.LiveRows.{IsRow, items_of}
use Rattle.ssu_liveness.proofs.Kept.{rows-of-whole}
use Rattle.zo_model.specs.Contents.{row_contents}
use Rattle.bank_prog_form.specs.declared.column.Column.{Column}
use Rattle.bank_prog_form.specs.Program as program
use Rattle.bank_prog_form.specs.Program.{same_column, row_of, number_of}
use Rattle.bank_prog_form.specs.Rows.{lines}
use Rattle.bank_prog_form.proofs.FormLemmas.{rows-alike, same-program}
use Rattle.bank_prog.specs.Weighted.{weigh, weighted_costs}
use Rattle.bank_prog.proofs.Valid.{costs-small, weighted-valid}
use Rattle.bank_prog.proofs.program.program_of.Goals as goal

pub rows_of-requires-clause-held : goal.rows_of-requires-clause-held
rows_of-requires-clause-held c =
    let f = c.args.t.now.form in
    subst (λ rs. AllZip IsRow (items_of rs) (points (labels_view f.ssu.now))) (sym c.deref.ensures.value)
    (rows-of-whole f.ssu.now (get nat_eq f.copies) (items_of f.live.items) c.requires.single f.sources f.rows)

pub weighted_costs-requires : goal.weighted_costs-requires
weighted_costs-requires c =
    let t = c.args.t.now in
    subst (λ (ps : List (Column × ℕ)). All (λ p. p.1 ≤ 33) ps) (sym (c.deref-2.ensures.value ∙ t.in_order)) (costs-small (labels_view t.form.ssu.now))

pub returns-clause-program : goal.returns-clause-program
returns-clause-program c =
    let t = c.args.t.now in
    let labels = labels_view t.form.ssu.now in
    same-program c.in_ok-costs.costs.items (weighted_costs labels c.args.w.now) (map row_contents c.in_ok-rows.rows.items) (program.rows labels c.args.slots)
    (c.in_ok-costs.ensures.costs ∙ ap (λ ps. map (λ (d : Column × ℕ). d.1) (map (weigh labels c.args.w.now) ps)) (c.deref-2.ensures.value ∙ t.in_order))
    (c.in_ok-rows.ensures ∙ rows-alike (get same_column t.numbers) (number_of labels) t.numbered (lines labels c.args.slots))

pub returns-then-len-gt-COUNT_LIMIT-clause-many : goal.returns-then-len-gt-COUNT_LIMIT-clause-many
returns-then-len-gt-COUNT_LIMIT-clause-many c = λ n h.
    let t = c.args.t.now in
    let labels = labels_view t.form.ssu.now in
    let rows : length c.in_ok-rows.rows.items ≡ length (program.rows labels c.args.slots) =
    sym (length-map c.in_ok-rows.rows.items row_contents) ∙ ap length c.in_ok-rows.ensures
    ∙ length-map (lines labels c.args.slots) (row_of (get same_column t.numbers))
    ∙ sym (length-map (lines labels c.args.slots) (row_of (number_of labels))) in
    let e : c.len-then-len-gt-COUNT_LIMIT.result ≡ n = cc in
    inr (t.few, (omega (arith, rows, e), omega (arith, rows, e)))

pub returns-clause-rows : goal.returns-clause-rows
returns-clause-rows c =
    let t = c.args.t.now in
    let labels = labels_view t.form.ssu.now in
    let rows : length c.in_ok-rows.rows.items ≡ length (program.rows labels c.args.slots) =
    sym (length-map c.in_ok-rows.rows.items row_contents) ∙ ap length c.in_ok-rows.ensures
    ∙ length-map (lines labels c.args.slots) (row_of (get same_column t.numbers))
    ∙ sym (length-map (lines labels c.args.slots) (row_of (number_of labels))) in
    omega (arith, rows)

pub returns-clause-valid : goal.returns-clause-valid
returns-clause-valid c =
    let t = c.args.t.now in
    weighted-valid _ (labels_view t.form.ssu.now) c.args.slots c.args.w.now (returns-clause-program c) c.requires.single c.requires.slots t.few (returns-clause-rows c) c.in_ok-costs.ensures.weights
