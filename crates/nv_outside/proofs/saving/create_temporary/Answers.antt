use Rattle.std.proofs.Common.{rules, ◌≡◌, ◌≢◌, sym, subst, List, ℕ, arith}
use Rattle.std.proofs.lemmas.Result.{err_from_is_err_and}
use Rattle.std.specs.IoError.{error_kind}
use Rattle.std.specs.declared.io.ErrorKind.TheVariants as kinds
use Rattle.nv_outside.specs.Steps.{Makes, IsBeside, IsCreated}
use Rattle.nv_outside.proofs.Steps.{PassesOver, passes-none, passes-more, passes-created, passes-refused, passes-long, passes-all}
use Rattle.nv_outside.proofs.saving.create_temporary.Goals as goal

pub loop-number-init : goal.loop-number-init
loop-number-init g c = passes-none g.C.SaveCalls.history c.args.name.now c.args.calls.now

pub returns-in_err-path-clause-not_created : goal.returns-in_err-path-clause-not_created
returns-in_err-path-clause-not_created g c =
    let p = err_from_is_err_and c.from_residual.result c.from_residual.ensures.1 in
    rw (p.1, p.2) (passes-long g.C.SaveCalls.history c.args.name.now c.args.calls.now c.loop-number.calls c.loop-number.number _ c.loop-number.invariant c.in_err-path.ensures.long)

pub returns-in-Ok-clause-created : goal.returns-in-Ok-clause-created
returns-in-Ok-clause-created g c =
    let beside : IsBeside c.args.name.now c.as_str.result.now = subst (λ (x : List ℕ). IsBeside c.args.name.now x) (sym c.as_str.ensures.value) c.in_ok-path.ensures.beside in
    subst (λ (x : List ℕ). Makes g.C.SaveCalls.history c.args.calls.now c.create_new.new.self (IsCreated c.args.name.now x)) c.as_str.ensures.value
    (passes-created g.C.SaveCalls.history c.args.name.now c.args.calls.now c.loop-number.calls c.create_new.new.self c.loop-number.number c.as_str.result.now c.loop-number.invariant beside c.in-Ok.ensures.made)

pub returns-in-Err-2-clause-not_created : goal.returns-in-Err-2-clause-not_created
returns-in-Err-2-clause-not_created g c =
    let beside : IsBeside c.args.name.now c.as_str.result.now = subst (λ (x : List ℕ). IsBeside c.args.name.now x) (sym c.as_str.ensures.value) c.in_ok-path.ensures.beside in
    let other : error_kind c.in-Err.e ≢ kinds.AlreadyExists = search rules in
    passes-refused g.C.SaveCalls.history c.args.name.now c.args.calls.now c.loop-number.calls c.create_new.new.self c.loop-number.number c.as_str.result.now (error_kind c.in-Err.e) c.loop-number.invariant beside other c.in-Err.ensures.made

pub loop-number-preserved : goal.loop-number-preserved
loop-number-preserved g c =
    let beside : IsBeside c.args.name.now c.as_str.result.now = subst (λ (x : List ℕ). IsBeside c.args.name.now x) (sym c.as_str.ensures.value) c.in_ok-path.ensures.beside in
    let same : error_kind c.in-Err.e ≡ kinds.AlreadyExists = search rules in
    passes-more g.C.SaveCalls.history c.args.name.now c.args.calls.now c.loop-number.calls c.create_new.new.self c.loop-number.number c.as_str.result.now (error_kind c.in-Err.e) c.loop-number.invariant beside same c.in-Err.ensures.made

pub returns-clause-not_created : goal.returns-clause-not_created
returns-clause-not_created g c =
    let low = c.loop-number-test.false in
    let high = c.loop-number.auto.number-end in
    let last : c.loop-number.number ≡ 1000 = omega arith in
    passes-all g.C.SaveCalls.history c.args.name.now c.args.calls.now c.loop-number.calls _ (subst (λ (n : ℕ). PassesOver g.C.SaveCalls.history c.args.name.now c.args.calls.now c.loop-number.calls n) last c.loop-number.invariant) (search rules)
