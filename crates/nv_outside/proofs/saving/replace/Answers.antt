use Rattle.std.proofs.Common.{rules, ◌≡◌, ◌≢◌}
use Rattle.std.proofs.lemmas.Result.{err_from_is_err_and}
use Rattle.std.specs.IoError.{error_kind}
use Rattle.std.specs.declared.io.ErrorKind.TheVariants as kinds
use Rattle.nv_outside.proofs.Steps.{over-done, over-failed, left-denied, taken-none, taken-replaced, taken-left}
use Rattle.nv_outside.proofs.saving.replace.Goals as goal

pub returns-in_err-first-clause-not_taken : goal.returns-in_err-first-clause-not_taken
returns-in_err-first-clause-not_taken g c =
    let p = err_from_is_err_and c.from_residual.result c.from_residual.ensures.1 in
    rw (p.1, p.2) (taken-none g.C.SaveCalls.history c.args.calls.now (g.C.SaveCalls.told c.args.calls.now) _ c.args.permissions c.args.name.now c.args.bytes.now c.in_err-first.ensures.refused)

pub returns-in-Err-clause-taken : goal.returns-in-Err-clause-taken
returns-in-Err-clause-taken g c =
    let denied : error_kind c.in-Err.e ≡ kinds.PermissionDenied = search rules in
    over-done g.C.SaveCalls.history c.args.calls.now c.replaced.new.calls c.overwrite.new.self c.args.permissions c.args.name.now c.args.bytes.now c.overwrite.result
    (left-denied g.C.SaveCalls.history c.args.calls.now c.replaced.new.calls (error_kind c.in-Err.e) c.args.permissions c.args.name.now c.args.bytes.now denied c.in-Err.ensures.left) c.overwrite.ensures.made

pub returns-in-Err-clause-not_taken : goal.returns-in-Err-clause-not_taken
returns-in-Err-clause-not_taken g c =
    let denied : error_kind c.in-Err.e ≡ kinds.PermissionDenied = search rules in
    over-failed g.C.SaveCalls.history c.args.calls.now c.replaced.new.calls c.overwrite.new.self (g.C.SaveCalls.told c.args.calls.now) c.args.permissions c.args.name.now c.args.bytes.now c.overwrite.result
    (left-denied g.C.SaveCalls.history c.args.calls.now c.replaced.new.calls (error_kind c.in-Err.e) c.args.permissions c.args.name.now c.args.bytes.now denied c.in-Err.ensures.left) c.overwrite.ensures.made

pub returns-in-Err-2-clause-not_taken : goal.returns-in-Err-2-clause-not_taken
returns-in-Err-2-clause-not_taken g c =
    let other : error_kind c.in-Err.e ≢ kinds.PermissionDenied = search rules in
    taken-left g.C.SaveCalls.history c.args.calls.now c.replaced.new.calls (g.C.SaveCalls.told c.args.calls.now) (error_kind c.in-Err.e) c.args.permissions c.args.name.now c.args.bytes.now other c.in-Err.ensures.left

pub returns-in-Ok-clause-taken : goal.returns-in-Ok-clause-taken
returns-in-Ok-clause-taken g c = taken-replaced g.C.SaveCalls.history c.args.calls.now c.replaced.new.calls c.args.permissions c.args.name.now c.args.bytes.now c.in-Ok.ensures.whole
