use Rattle.std.specs.Option.{option_to_list}
use Rattle.std.proofs.lemmas.Result.{err_from_is_err_and}
use Rattle.nv_ast.specs.Faults.{other_type}
use Rattle.nv_types_table.proofs.Firsts.{first_kind, then_kinds}
use Rattle.nv_types_scopes.proofs.functions.Checker.judge.Goals as goal

pub returns-in_err-fault_of : goal.returns-in_err-fault_of
returns-in_err-fault_of c = λ w t h k.
    let p = err_from_is_err_and c.from_residual.result c.from_residual.ensures.1 in
    rw (p.1, p.2) (first_kind c.args.span (option_to_list c.args.low) _ _ c.in_err-fault_of.ensures)

pub returns-in_err-right_type : goal.returns-in_err-right_type
returns-in_err-right_type c = λ w t h k.
    let p = err_from_is_err_and c.from_residual-in_err-right_type.result c.from_residual-in_err-right_type.ensures.1 in
    then_kinds c.args.span (option_to_list c.args.low) _ c.from_residual-in_err-right_type.result c.in_ok-fault_of.ensures
    (rw (p.1, p.2) (first_kind c.args.span (other_type w t) _ _ (c.in_err-right_type.ensures w t h k)))

pub returns-in_err-fault_of-2 : goal.returns-in_err-fault_of-2
returns-in_err-fault_of-2 c = λ w t h k.
    let p = err_from_is_err_and c.from_residual-in_err-fault_of-2.result c.from_residual-in_err-fault_of-2.ensures.1 in
    then_kinds c.args.span (option_to_list c.args.low) _ c.from_residual-in_err-fault_of-2.result c.in_ok-fault_of.ensures
    (then_kinds c.args.span (other_type w t) _ c.from_residual-in_err-fault_of-2.result (c.in_ok-right_type.ensures w t h k)
    (rw (p.1, p.2) (first_kind c.args.span (option_to_list c.args.middle) _ _ c.in_err-fault_of-2.ensures)))

pub returns : goal.returns
returns c = λ w t h k.
    then_kinds c.args.span (option_to_list c.args.low) _ c.fitting_value.result c.in_ok-fault_of.ensures
    (then_kinds c.args.span (other_type w t) _ c.fitting_value.result (c.in_ok-right_type.ensures w t h k)
    (then_kinds c.args.span (option_to_list c.args.middle) _ c.fitting_value.result c.in_ok-fault_of-2.ensures
    (c.fitting_value.ensures w t h k)))
