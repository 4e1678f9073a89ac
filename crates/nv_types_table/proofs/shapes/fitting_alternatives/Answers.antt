use Rattle.std.proofs.Common.{◌≡◌, [], Bool, not, subst}
use Rattle.std.proofs.lemmas.Result.{err_from_is_err_and}
use Rattle.nv_ast.specs.Outline.{sizes_of}
use Rattle.nv_ast.specs.Types.{forms_of}
use Rattle.nv_ast.specs.Faults.{at_span}
use Rattle.nv_ast.specs.Tests.{where_true, has_twice, all_same}
use Rattle.nv_types_table.specs.inner.Store.{form_names}
use Rattle.nv_types_table.specs.inner.Faulty.{IsFirstOf, Judges}
use Rattle.nv_types_table.proofs.Firsts.{first_kind, then_kinds}
use Rattle.nv_types_table.proofs.shapes.fitting_alternatives.Goals as goal

pub returns-in_err-fault_where : goal.returns-in_err-fault_where
returns-in_err-fault_where c = λ s os h forms.
    let p = err_from_is_err_and c.from_residual-in_err-fault_where.result c.from_residual-in_err-fault_where.ensures.1 in
    let e = c.in_err-fault_where.field-0.0 in
    rw (p.1, p.2) (first_kind c.args.span (where_true (has_twice (form_names (forms_of os))) 5) (where_true (not (all_same (sizes_of os))) 6) e
    (subst (λ (b : Bool). IsFirstOf (at_span c.args.span (where_true b 5)) e) (c.in_ok-named_twice.ensures.of_forms (forms_of os) forms) c.in_err-fault_where.ensures))

pub returns : goal.returns
returns c = λ s os h forms.
    then_kinds c.args.span (where_true (has_twice (form_names (forms_of os))) 5) (where_true (not (all_same (sizes_of os))) 6) c.fault_where-2.result
    (subst (λ (b : Bool). at_span c.args.span (where_true b 5) ≡ []) (c.in_ok-named_twice.ensures.of_forms (forms_of os) forms) c.in_ok-fault_where.ensures)
    (subst (λ (b : Bool). Judges (at_span c.args.span (where_true (not b) 6)) c.fault_where-2.result) (c.have_one_size.ensures s os h) c.fault_where-2.ensures)
