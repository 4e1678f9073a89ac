use Rattle.std.proofs.Common.{◌∷◌, [], map, ◌∙◌, arith}
use Rattle.std.proofs.lemmas.List.{length-map}
use Rattle.std.proofs.lemmas.Result.{err_from_is_err_and}
use Rattle.zo_model.specs.Contents.{row_contents}
use Rattle.zo_model.proofs.FaultLemmas.{columns_fault, rows_fault, costs_fault, row_fault, two_lines, spelled_more, program_spelled, valid_made, lines_counted}
use Rattle.zo_model.specs.ProgramText.{columns_line, rows_line, cost_line}
use Rattle.zo_model.proofs.read_text.read_program_lines.Goals as goal

pub returns-in_err-n-clause-err : goal.returns-in_err-n-clause-err
returns-in_err-n-clause-err c =
    let p = err_from_is_err_and c.from_residual.result c.from_residual.ensures.1 in
    rw (p.1, p.2) (columns_fault _ _ _ c.in_err-n.ensures.err)

pub returns-in_err-m-clause-err : goal.returns-in_err-m-clause-err
returns-in_err-m-clause-err c =
    let p = err_from_is_err_and c.from_residual-in_err-m.result c.from_residual-in_err-m.ensures.1 in
    rw (p.1, p.2) (rows_fault _ _ _ _ c.in_ok-n.n _ c.in_ok-n.ensures.ok.0 c.in_ok-n.ensures.ok.1 c.in_ok-n.ensures.number c.in_err-m.ensures.err)

pub returns-in_err-costs-clause-err : goal.returns-in_err-costs-clause-err
returns-in_err-costs-clause-err c =
    let p = err_from_is_err_and c.from_residual-in_err-costs.result c.from_residual-in_err-costs.ensures.1 in
    rw (p.1, p.2) (costs_fault _ _ c.args.reader.now.number c.read_counted-2.new.reader.number c.in_ok-n.n c.in_ok-m.m _ c.in_ok-n.ensures.ok.0 c.in_ok-m.ensures.ok.0
    (two_lines _ _ _ c.in_ok-n.n c.in_ok-m.m c.in_ok-n.ensures.ok.1 c.in_ok-m.ensures.ok.1) (omega (arith, c.in_ok-n.ensures.number, c.in_ok-m.ensures.number)) c.in_err-costs.ensures.err)

pub returns-in_err-rows-clause-err : goal.returns-in_err-rows-clause-err
returns-in_err-rows-clause-err c =
    let p = err_from_is_err_and c.from_residual-in_err-rows.result c.from_residual-in_err-rows.ensures.1 in
    rw (p.1, p.2) (row_fault _ _ c.args.reader.now.number c.read_costs.new.reader.number c.in_ok-n.n c.in_ok-m.m c.in_ok-costs.costs.items _ c.in_ok-n.ensures.ok.0 c.in_ok-m.ensures.ok.0 c.in_ok-costs.ensures.count c.in_ok-costs.ensures.fit
    (spelled_more c.args.reader.now.lines c.read_counted-2.new.reader.lines c.read_costs.new.reader.lines (columns_line c.in_ok-n.n ∷ rows_line c.in_ok-m.m ∷ []) (map cost_line c.in_ok-costs.costs.items) (two_lines _ _ _ c.in_ok-n.n c.in_ok-m.m c.in_ok-n.ensures.ok.1 c.in_ok-m.ensures.ok.1) c.in_ok-costs.ensures.lines)
    (omega (arith, c.in_ok-n.ensures.number, c.in_ok-m.ensures.number, c.in_ok-costs.ensures.number)) c.in_err-rows.ensures.err)

pub returns-clause-valid : goal.returns-clause-valid
returns-clause-valid c =
    valid_made c.in_ok-n.n c.in_ok-m.m c.in_ok-costs.costs.items (map row_contents c.in_ok-rows.rows.items) c.in_ok-n.ensures.ok.0 c.in_ok-m.ensures.ok.0 c.in_ok-costs.ensures.count
    (length-map c.in_ok-rows.rows.items row_contents ∙ c.in_ok-rows.ensures.count) c.in_ok-costs.ensures.fit c.in_ok-rows.ensures.fit

pub returns-clause-lines : goal.returns-clause-lines
returns-clause-lines c =
    program_spelled _ _ _ _ _ c.in_ok-n.n c.in_ok-m.m c.in_ok-costs.costs.items (map row_contents c.in_ok-rows.rows.items) c.in_ok-costs.ensures.count
    (length-map c.in_ok-rows.rows.items row_contents ∙ c.in_ok-rows.ensures.count) c.in_ok-n.ensures.ok.1 c.in_ok-m.ensures.ok.1 c.in_ok-costs.ensures.lines c.in_ok-rows.ensures.lines

pub returns-clause-number : goal.returns-clause-number
returns-clause-number c =
    lines_counted c.in_ok-n.n c.in_ok-m.m c.args.reader.now.number c.read_rows.new.reader.number c.in_ok-costs.costs.items (map row_contents c.in_ok-rows.rows.items) c.in_ok-costs.ensures.count
    (length-map c.in_ok-rows.rows.items row_contents ∙ c.in_ok-rows.ensures.count)
    (omega (arith, c.in_ok-n.ensures.number, c.in_ok-m.ensures.number, c.in_ok-costs.ensures.number, c.in_ok-rows.ensures.number))
