use Rattle.std.proofs.Common.{sym, subst}
use Rattle.std.proofs.Math.Nat.{le_trans}
use Rattle.std.proofs.lemmas.Result.{err_from_is_err_and}
use Rattle.nv_ast.specs.TypedView.{typed_program}
use Rattle.ssu_ir.specs.View.{labels_view}
use Rattle.nova_compile.specs.Forms.{IsBoundedFormOf}
use Rattle.nova_compile.proofs.Formed.{form-of, code-for, banks-of, back-caused}
use Rattle.nova_compile.proofs.OneCause.{front-caused, text-good, text-only, form-want, form-cause}
use Rattle.nova_compile.proofs.build.compile_text_within.Goals as goal

pub returns-in_err-typed-clause-only_refused : goal.returns-in_err-typed-clause-only_refused
returns-in_err-typed-clause-only_refused c = λ f h.
    let e = err_from_is_err_and c.from_residual.result c.from_residual.ensures.1 in
    rw e.1 (text-only c.args.bytes.now f e.0 h (front-caused c.args.bytes.now _ e.0 c.in_err-typed.ensures.refused e.2))

pub returns-in_err-built-clause-only_program : goal.returns-in_err-built-clause-only_program
returns-in_err-built-clause-only_program c = λ p s.
    let form : IsBoundedFormOf (typed_program c.in_ok-typed.typed) (labels_view c.in_ok-form.form) = form-of _ c.in_ok-typed.flat.funs.items c.in_ok-typed.flat.main _ c.in_ok-typed.flat.formed c.in_ok-typed.ensures.kept c.in_ok-typed.ensures.wide c.in_ok-typed.ensures.bulk c.in_ok-form.ensures.single c.in_ok-form.ensures.kept c.in_ok-form.ensures.peak c.in_ok-form.ensures.size c.in_ok-form.ensures.code c.in_ok-form.ensures.made in
    let e = err_from_is_err_and c.from_residual-in_err-built.result c.from_residual-in_err-built.ensures.1 in
    rw e.1 (form-want c.args.bytes.now c.args.slots c.args.w.now c.args.budget c.args.store (typed_program c.in_ok-typed.typed) p e.0 c.in_ok-typed.ensures.program s (back-caused _ (labels_view c.in_ok-form.form) c.args.slots c.args.w.now c.args.budget c.args.store _ e.0 form c.in_err-built.ensures.only_large c.in_err-built.ensures.refused e.2))

pub returns-in_err-built-clause-refused : goal.returns-in_err-built-clause-refused
returns-in_err-built-clause-refused c =
    let form : IsBoundedFormOf (typed_program c.in_ok-typed.typed) (labels_view c.in_ok-form.form) = form-of _ c.in_ok-typed.flat.funs.items c.in_ok-typed.flat.main _ c.in_ok-typed.flat.formed c.in_ok-typed.ensures.kept c.in_ok-typed.ensures.wide c.in_ok-typed.ensures.bulk c.in_ok-form.ensures.single c.in_ok-form.ensures.kept c.in_ok-form.ensures.peak c.in_ok-form.ensures.size c.in_ok-form.ensures.code c.in_ok-form.ensures.made in
    let e = err_from_is_err_and c.from_residual-in_err-built.result c.from_residual-in_err-built.ensures.1 in
    rw e.1 (form-cause c.args.bytes.now c.args.slots c.args.w.now c.args.budget c.args.store (typed_program c.in_ok-typed.typed) e.0 c.in_ok-typed.ensures.program (back-caused _ (labels_view c.in_ok-form.form) c.args.slots c.args.w.now c.args.budget c.args.store _ e.0 form c.in_err-built.ensures.only_large c.in_err-built.ensures.refused e.2))

pub returns-in_err-built-clause-only_refused : goal.returns-in_err-built-clause-only_refused
returns-in_err-built-clause-only_refused c = λ f h. absurd (text-good c.args.bytes.now (typed_program c.in_ok-typed.typed) f c.in_ok-typed.ensures.program h)

pub returns-clause-form : goal.returns-clause-form
returns-clause-form c =
    let form : IsBoundedFormOf (typed_program c.in_ok-typed.typed) (labels_view c.in_ok-form.form) = form-of _ c.in_ok-typed.flat.funs.items c.in_ok-typed.flat.main _ c.in_ok-typed.flat.formed c.in_ok-typed.ensures.kept c.in_ok-typed.ensures.wide c.in_ok-typed.ensures.bulk c.in_ok-form.ensures.single c.in_ok-form.ensures.kept c.in_ok-form.ensures.peak c.in_ok-form.ensures.size c.in_ok-form.ensures.code c.in_ok-form.ensures.made in
    subst (IsBoundedFormOf (typed_program c.in_ok-typed.typed)) (sym c.in_ok-built.ensures.form) form

pub returns-clause-code : goal.returns-clause-code
returns-clause-code c =
    let form : IsBoundedFormOf (typed_program c.in_ok-typed.typed) (labels_view c.in_ok-form.form) = form-of _ c.in_ok-typed.flat.funs.items c.in_ok-typed.flat.main _ c.in_ok-typed.flat.formed c.in_ok-typed.ensures.kept c.in_ok-typed.ensures.wide c.in_ok-typed.ensures.bulk c.in_ok-form.ensures.single c.in_ok-form.ensures.kept c.in_ok-form.ensures.peak c.in_ok-form.ensures.size c.in_ok-form.ensures.code c.in_ok-form.ensures.made in
    code-for _ _ _ _ form c.in_ok-built.ensures.code

pub returns-clause-form_code : goal.returns-clause-form_code
returns-clause-form_code c = rw c.in_ok-built.ensures.form c.in_ok-built.ensures.code

pub returns-clause-brief : goal.returns-clause-brief
returns-clause-brief c =
    let form : IsBoundedFormOf (typed_program c.in_ok-typed.typed) (labels_view c.in_ok-form.form) = form-of _ c.in_ok-typed.flat.funs.items c.in_ok-typed.flat.main _ c.in_ok-typed.flat.formed c.in_ok-typed.ensures.kept c.in_ok-typed.ensures.wide c.in_ok-typed.ensures.bulk c.in_ok-form.ensures.single c.in_ok-form.ensures.kept c.in_ok-form.ensures.peak c.in_ok-form.ensures.size c.in_ok-form.ensures.code c.in_ok-form.ensures.made in
    le_trans c.in_ok-built.ensures.brief form.brief

pub returns-clause-report : goal.returns-clause-report
returns-clause-report c = rw c.in_ok-built.ensures.form c.in_ok-built.ensures.report

pub returns-clause-starts : goal.returns-clause-starts
returns-clause-starts c = rw c.in_ok-built.ensures.form c.in_ok-built.ensures.starts

pub returns-clause-cheap : goal.returns-clause-cheap
returns-clause-cheap c = rw c.in_ok-built.ensures.form c.in_ok-built.ensures.cheap

pub returns-clause-placed : goal.returns-clause-placed
returns-clause-placed c = rw c.in_ok-built.ensures.form c.in_ok-built.ensures.placed

pub returns-clause-banks : goal.returns-clause-banks
returns-clause-banks c =
    let form : IsBoundedFormOf (typed_program c.in_ok-typed.typed) (labels_view c.in_ok-form.form) = form-of _ c.in_ok-typed.flat.funs.items c.in_ok-typed.flat.main _ c.in_ok-typed.flat.formed c.in_ok-typed.ensures.kept c.in_ok-typed.ensures.wide c.in_ok-typed.ensures.bulk c.in_ok-form.ensures.single c.in_ok-form.ensures.kept c.in_ok-form.ensures.peak c.in_ok-form.ensures.size c.in_ok-form.ensures.code c.in_ok-form.ensures.made in
    banks-of _ (labels_view c.in_ok-form.form) c.args.slots c.args.w.now c.args.budget _ _ _ form c.in_ok-built.ensures.report c.in_ok-built.ensures.found c.in_ok-built.ensures.code c.in_ok-built.ensures.starts c.in_ok-built.ensures.light c.in_ok-built.ensures.cheap

pub returns-clause-only_refused : goal.returns-clause-only_refused
returns-clause-only_refused c = λ f h. text-good c.args.bytes.now (typed_program c.in_ok-typed.typed) f c.in_ok-typed.ensures.program h
