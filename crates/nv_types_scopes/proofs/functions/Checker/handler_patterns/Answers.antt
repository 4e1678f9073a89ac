use Rattle.std.proofs.Common.{refl, sym}
use Rattle.nv_types_table.specs.declared.error.TypeError.TheVariants.{NoMemory}
use Rattle.nv_types_scopes.proofs.BlockPatterns.{handler_at_err, handler_wants_memory, handler_fails_at_names, handler_fails_at_exception, handler_fails_at_number, handler_fails_at_fit, handler_binds}
use Rattle.nv_types_scopes.proofs.functions.Checker.handler_patterns.Goals as goal

pub returns-in_err-without_repeated : goal.returns-in_err-without_repeated
returns-in_err-without_repeated c = handler_at_err _ _ _ _ _ _ _ c.from_residual.ensures.1 (handler_fails_at_names _ _ _ _ _ _ _ refl c.in_err-without_repeated.ensures)

pub returns-in_err-fault_where-in-Some : goal.returns-in_err-fault_where-in-Some
returns-in_err-fault_where-in-Some c =
    handler_at_err _ _ _ _ _ _ _ c.from_residual-in_err-fault_where-in-Some.ensures.1
    (handler_fails_at_number _ _ _ _ c.args.ps.now _ _ _ _ refl c.in_ok-without_repeated.ensures (sym c.in-Some.ensures) c.has_length.ensures c.in_err-fault_where-in-Some.ensures)

pub returns-in_err-fault_where-in-Some-2 : goal.returns-in_err-fault_where-in-Some-2
returns-in_err-fault_where-in-Some-2 c =
    handler_at_err _ _ _ _ _ _ _ c.from_residual-in_err-fault_where-in-Some-2.ensures.1
    (handler_fails_at_fit _ _ _ _ c.args.ps.now _ _ _ _ _ refl c.in_ok-without_repeated.ensures (sym c.in-Some.ensures) c.has_length.ensures c.in_ok-fault_where-in-Some.ensures c.fits_all.ensures c.in_err-fault_where-in-Some-2.ensures)

pub returns-in_err-bind_all-in-Some : goal.returns-in_err-bind_all-in-Some
returns-in_err-bind_all-in-Some c = handler_at_err _ _ _ _ _ _ NoMemory c.from_residual-in_err-bind_all-in-Some.ensures.1 (handler_wants_memory _ _ _ _ _)

pub returns-in_ok-bind_all-in-Some : goal.returns-in_ok-bind_all-in-Some
returns-in_ok-bind_all-in-Some c =
    handler_binds _ _ _ _ c.args.ps.now _ _ _ _ refl c.in_ok-without_repeated.ensures (sym c.in-Some.ensures) c.has_length.ensures c.in_ok-fault_where-in-Some.ensures c.fits_all.ensures
    c.in_ok-fault_where-in-Some-2.ensures c.in_ok-bind_all-in-Some.ensures.sees c.in_ok-bind_all-in-Some.ensures.adds

pub returns-in-None : goal.returns-in-None
returns-in-None c =
    handler_fails_at_exception _ _ _ _ _ _ refl c.in_ok-without_repeated.ensures (sym c.in-None.ensures)
