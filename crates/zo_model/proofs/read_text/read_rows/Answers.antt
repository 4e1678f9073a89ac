use Rattle.std.proofs.Common.{◌≡◌, ◌++◌, ◌∷◌, [], length, map, sym, ap, ◌∙◌, subst, arith}
use Rattle.std.proofs.lemmas.List.{length-map, map-append, length-append}
use Rattle.std.proofs.lemmas.Result.{err_from_is_err_and}
use Rattle.zo_model.specs.Contents.{row_contents}
use Rattle.zo_model.specs.inner.LineFault.{cut}
use Rattle.zo_model.proofs.LineLemmas.{no_line_other}
use Rattle.zo_model.proofs.CostLemmas.{HasRows, one_row_more}
use Rattle.zo_model.proofs.read_text.read_rows.Goals as goal

pub returns-in_err-line-clause-err : goal.returns-in_err-line-clause-err
returns-in_err-line-clause-err c =
    let p = err_from_is_err_and c.from_residual.result c.from_residual.ensures.1 in
    let counted = length-map c.loop.rows.items row_contents in
    rw (p.1, p.2, c.in_err-line.ensures.none.0) (
      map row_contents c.loop.rows.items,
      omega (arith, c.loop.invariant.1.counted),
      record { rest = c.loop.reader.lines; fewer = omega (arith, c.loop.invariant.0, counted); fit = c.loop.invariant.1.fit; spelled = c.loop.invariant.1.spelled; no_line = cut c.in_err-line.ensures.none.1 },
    )

pub returns-in_default-clause-err : goal.returns-in_default-clause-err
returns-in_default-clause-err c =
    let counted = length-map c.loop.rows.items row_contents in
    let none = rw c.in_default.is at c.in_ok-row.ensures.none in (
      map row_contents c.loop.rows.items,
      omega (arith, c.in_ok-line.ensures.number, c.loop.invariant.1.counted),
      record { rest = c.loop.reader.lines; fewer = omega (arith, c.loop.invariant.0, counted); fit = c.loop.invariant.1.fit; spelled = c.loop.invariant.1.spelled; no_line = no_line_other _ _ _ _ c.in_ok-line.ensures.line c.in_ok-line.ensures.one none },
    )

pub loop-preserved : goal.loop-preserved
loop-preserved c =
    let some = rw c.in-Some.is at c.in_ok-row.ensures.some in
    let items : map row_contents c.push.new.self.items ≡ map row_contents c.loop.rows.items ++ row_contents c.in-Some.row ∷ [] =
    ap (map row_contents) c.in_ok-push.ensures.items ∙ map-append row_contents c.loop.rows.items (c.in-Some.row ∷ []) in
    let more = one_row_more c.args.columns _ _ _ (map row_contents c.loop.rows.items) _ _ _ (row_contents c.in-Some.row) c.loop.invariant.1 c.in_ok-line.ensures.line some.1 some.0 in (
      omega (arith, c.loop.invariant.0, ap length c.in_ok-push.ensures.items, length-append c.loop.rows.items (c.in-Some.row ∷ [])),
      subst (λ rs. HasRows c.args.columns c.args.reader.now.lines c.next_line.new.self.lines rs c.args.reader.now.number c.next_line.new.self.number) (sym items)
          (subst (λ k. HasRows c.args.columns c.args.reader.now.lines c.next_line.new.self.lines (map row_contents c.loop.rows.items ++ row_contents c.in-Some.row ∷ []) c.args.reader.now.number k) (sym c.in_ok-line.ensures.number) more),
    )
