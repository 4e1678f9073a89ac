use Rattle.std.proofs.Common.{List, ℕ, sym, subst}
use Rattle.std.proofs.lemmas.Result.{err_from_is_err_and}
use Rattle.std.specs.IoError.{error_kind}
use Rattle.nv_outside.specs.Steps.{Makes, IsCreated}
use Rattle.nv_outside.proofs.Steps.{replaced-whole, replaced-undone, not-created}
use Rattle.nv_outside.proofs.saving.replaced.Goals as goal

pub returns-in_err-temporary-clause-left : goal.returns-in_err-temporary-clause-left
returns-in_err-temporary-clause-left g c =
    let p = err_from_is_err_and c.from_residual.result c.from_residual.ensures.1 in
    rw (p.1, p.2) (not-created g.C.SaveCalls.history c.args.calls.now c.create_temporary.new.calls _ c.args.permissions c.args.name.now c.args.bytes.now c.in_err-temporary.ensures.not_created)

pub returns-in-Ok-clause-whole : goal.returns-in-Ok-clause-whole
returns-in-Ok-clause-whole g c =
    let created : Makes g.C.SaveCalls.history c.args.calls.now c.create_temporary.new.calls (IsCreated c.args.name.now c.as_str-path.result.now) =
    subst (λ (x : List ℕ). Makes g.C.SaveCalls.history c.args.calls.now c.create_temporary.new.calls (IsCreated c.args.name.now x)) (sym c.as_str-path.ensures.value) c.in_ok-temporary.ensures.created in
    replaced-whole g.C.SaveCalls.history c.args.calls.now c.create_temporary.new.calls c.fill.new.calls c.args.permissions c.args.name.now c.args.bytes.now c.as_str-path.result.now created c.in-Ok.ensures.filled

pub returns-in-Err-clause-left : goal.returns-in-Err-clause-left
returns-in-Err-clause-left g c =
    let created : Makes g.C.SaveCalls.history c.args.calls.now c.create_temporary.new.calls (IsCreated c.args.name.now c.as_str-path.result.now) =
    subst (λ (x : List ℕ). Makes g.C.SaveCalls.history c.args.calls.now c.create_temporary.new.calls (IsCreated c.args.name.now x)) (sym c.as_str-path.ensures.value) c.in_ok-temporary.ensures.created in
    replaced-undone g.C.SaveCalls.history c.args.calls.now c.create_temporary.new.calls c.fill.new.calls c.remove.new.self c.args.permissions (error_kind c.in-Err.e) c.args.name.now c.args.bytes.now c.as_str-path.result.now c.remove.result created
    c.in-Err.ensures.cut_off c.remove.ensures.made
