use Rattle.std.proofs.Common.{◌∙◌, ◌≤◌, ◌+◌, ap, sym, subst, arith, is_none, List, drop, length}
use Rattle.std.proofs.Math.ListN.{drop_of_length-le}
use Rattle.nv_ast.specs.declared.tree.Pat.{Pat}
use Rattle.nv_types_table.proofs.RowEdges.{none_test}
use Rattle.nv_types_scopes.proofs.Walked.{FitSo, fit_none, fit_wrong, fit_right, fit_all, at_item}
use Rattle.nv_types_scopes.proofs.patterns.+fits.Goals as goal

pub fits_all-returns-in_default : goal.fits_all-returns-in_default
fits_all-returns-in_default t c =
    let ps = c.args.ps.now in
    let i = c.loop-p.p-index in
    let s = c.args.table.now in
    let so = subst (λ (l : List Pat). FitSo c.args.table.now c.args.ps.now l c.args.types c.loop-p.list) (at_item ps i c.p-item.result c.loop-p-test.true c.p-item.is) c.loop-p.invariant in
    fit_none s ps (drop (i + 1) ps) c.p-item.result c.args.types c.loop-p.list so (sym c.in_default.ensures.value)

pub fits_all-returns-then-not-fits : goal.fits_all-returns-then-not-fits
fits_all-returns-then-not-fits t c =
    let ps = c.args.ps.now in
    let i = c.loop-p.p-index in
    let s = c.args.table.now in
    let so = subst (λ (l : List Pat). FitSo c.args.table.now c.args.ps.now l c.args.types c.loop-p.list) (at_item ps i c.p-item.result c.loop-p-test.true c.p-item.is) c.loop-p.invariant in
    fit_wrong s c.in-Some.ensures.store ps (drop (i + 1) ps) c.p-item.result c.args.types c.loop-p.list c.in-Some.t c.in-Some.rest so (sym c.in-Some.ensures.value) (λ u h. sym c.if-not-fits.true ∙ c.fits.ensures u h)

pub fits_all-loop-p-preserved : goal.fits_all-loop-p-preserved
fits_all-loop-p-preserved t c =
    let ps = c.args.ps.now in
    let i = c.loop-p.p-index in
    let s = c.args.table.now in
    let so = subst (λ (l : List Pat). FitSo c.args.table.now c.args.ps.now l c.args.types c.loop-p.list) (at_item ps i c.p-item.result c.loop-p-test.true c.p-item.is) c.loop-p.invariant in
    fit_right s c.in-Some.ensures.store ps (drop (i + 1) ps) c.p-item.result c.args.types c.loop-p.list c.in-Some.t c.in-Some.rest so (sym c.in-Some.ensures.value) (λ u h. sym c.if-not-fits.false ∙ c.fits.ensures u h)

pub fits_all-returns : goal.fits_all-returns
fits_all-returns t c = λ us h.
    let ps = c.args.ps.now in
    let i = c.loop-p.p-index in
    let past : length c.args.ps.now ≤ c.loop-p.p-index = omega arith in
    let so = subst (λ (l : List Pat). FitSo c.args.table.now c.args.ps.now l c.args.types c.loop-p.list) (drop_of_length-le ps past) c.loop-p.invariant in
    none_test c.first_part-2.result c.is_none.result c.is_none.ensures ∙ ap is_none c.first_part-2.ensures.value ∙ fit_all c.args.table.now c.first_part-2.ensures.store ps c.args.types c.loop-p.list so us h
