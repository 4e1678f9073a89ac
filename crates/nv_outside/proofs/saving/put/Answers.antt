use Rattle.std.proofs.Common.{[], ◌∷◌}
use Rattle.std.proofs.lemmas.Result.{IfErr-weaker, err_from_is_err_and}
use Rattle.std.specs.IoError.{error_kind}
use Rattle.nv_outside.specs.Steps.{WriteAll, SyncAll, Rename, putting, Makes, IsCutOff}
use Rattle.nv_outside.proofs.Steps.{cut-now, cut-later, cut-last}
use Rattle.nv_outside.proofs.saving.put.Goals as goal

pub returns-in_err-write_all-clause-cut_off : goal.returns-in_err-write_all-clause-cut_off
returns-in_err-write_all-clause-cut_off g c =
    let p = err_from_is_err_and c.from_residual.result c.from_residual.ensures.1 in
    rw (p.1, p.2) (cut-now g.C.SaveCalls.history c.args.calls.now c.write_all.new.self (WriteAll c.args.bytes.now) (SyncAll ∷ Rename c.args.path.now c.args.name.now ∷ []) (error_kind c.in_err-write_all.field-0.0) c.in_err-write_all.ensures.made)

pub returns-in_err-sync_all-clause-cut_off : goal.returns-in_err-sync_all-clause-cut_off
returns-in_err-sync_all-clause-cut_off g c =
    let p = err_from_is_err_and c.from_residual-in_err-sync_all.result c.from_residual-in_err-sync_all.ensures.1 in
    let kind = error_kind c.in_err-sync_all.field-0.0 in
    rw (p.1, p.2) (cut-later g.C.SaveCalls.history c.args.calls.now c.write_all.new.self c.sync_all.new.self (WriteAll c.args.bytes.now) (SyncAll ∷ Rename c.args.path.now c.args.name.now ∷ []) kind c.in_ok-write_all.ensures.made
    (cut-now g.C.SaveCalls.history c.write_all.new.self c.sync_all.new.self SyncAll (Rename c.args.path.now c.args.name.now ∷ []) kind c.in_err-sync_all.ensures.made))

pub returns-clause-cut_off : goal.returns-clause-cut_off
returns-clause-cut_off g c =
    IfErr-weaker c.rename.result (λ e. Makes g.C.SaveCalls.history c.sync_all.new.self c.rename.new.self (IsCutOff (error_kind e) (Rename c.args.path.now c.args.name.now ∷ [])))
    (λ e. Makes g.C.SaveCalls.history c.args.calls.now c.rename.new.self (IsCutOff (error_kind e) (putting c.args.bytes.now c.args.path.now c.args.name.now)))
    (λ e last. cut-later g.C.SaveCalls.history c.args.calls.now c.write_all.new.self c.rename.new.self (WriteAll c.args.bytes.now) (SyncAll ∷ Rename c.args.path.now c.args.name.now ∷ []) (error_kind e) c.in_ok-write_all.ensures.made
    (cut-later g.C.SaveCalls.history c.write_all.new.self c.sync_all.new.self c.rename.new.self SyncAll (Rename c.args.path.now c.args.name.now ∷ []) (error_kind e) c.in_ok-sync_all.ensures.made last))
    (cut-last g.C.SaveCalls.history c.sync_all.new.self c.rename.new.self (Rename c.args.path.now c.args.name.now) c.rename.result c.rename.ensures.made)
