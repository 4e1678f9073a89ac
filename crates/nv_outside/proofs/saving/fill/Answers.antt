use Rattle.std.proofs.Common.{◌∷◌}
use Rattle.std.proofs.lemmas.Result.{IfErr-weaker, err_from_is_err_and}
use Rattle.std.specs.IoError.{error_kind}
use Rattle.nv_outside.specs.Steps.{SetPermissions, putting, Makes, IsCutOff}
use Rattle.nv_outside.proofs.Steps.{cut-now, cut-later}
use Rattle.nv_outside.proofs.saving.fill.Goals as goal

pub returns-in_err-set_permissions-in-Some-clause-cut_off : goal.returns-in_err-set_permissions-in-Some-clause-cut_off
returns-in_err-set_permissions-in-Some-clause-cut_off g c =
    let p = err_from_is_err_and c.from_residual.result c.from_residual.ensures.1 in
    rw (c.in-Some.is, p.1, p.2) (
    cut-now g.C.SaveCalls.history c.args.calls.now c.set_permissions.new.self (SetPermissions c.in-Some.permissions) (putting c.args.bytes.now c.args.path.now c.args.name.now) (error_kind c.in_err-set_permissions-in-Some.field-0.0) c.in_err-set_permissions-in-Some.ensures.made
    )

pub returns-in_ok-set_permissions-in-Some-clause-cut_off : goal.returns-in_ok-set_permissions-in-Some-clause-cut_off
returns-in_ok-set_permissions-in-Some-clause-cut_off g c =
    rw c.in-Some.is (
    IfErr-weaker c.put.result (λ e. Makes g.C.SaveCalls.history c.set_permissions.new.self c.put.new.calls (IsCutOff (error_kind e) (putting c.args.bytes.now c.args.path.now c.args.name.now)))
    (λ e. Makes g.C.SaveCalls.history c.args.calls.now c.put.new.calls (IsCutOff (error_kind e) (SetPermissions c.in-Some.permissions ∷ putting c.args.bytes.now c.args.path.now c.args.name.now)))
    (λ e later. cut-later g.C.SaveCalls.history c.args.calls.now c.set_permissions.new.self c.put.new.calls (SetPermissions c.in-Some.permissions) (putting c.args.bytes.now c.args.path.now c.args.name.now) (error_kind e) c.in_ok-set_permissions-in-Some.ensures.made later)
    c.put.ensures.cut_off
    )

pub returns-in-None-clause-cut_off : goal.returns-in-None-clause-cut_off
returns-in-None-clause-cut_off g c = rw c.in-None.is c.put-in-None.ensures.cut_off
