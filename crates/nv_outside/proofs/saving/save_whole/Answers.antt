use Rattle.std.proofs.Common.{◌≡◌, None, Ok, refl}
use Rattle.std.proofs.lemmas.Result.{err_from_is_err_and}
use Rattle.nv_outside.specs.declared.saving.Way.TheVariants as way
use Rattle.nv_outside.proofs.Steps.{unsaved-none, saved-over, unsaved-over, saved-at, unsaved-at}
use Rattle.nv_outside.proofs.saving.save_whole.Goals as goal

pub returns-in_err-way-clause-unsaved : goal.returns-in_err-way-clause-unsaved
returns-in_err-way-clause-unsaved g c =
    let p = err_from_is_err_and c.from_residual.result c.from_residual.ensures.1 in
    rw (p.1, p.2) (unsaved-none g.C.SaveCalls.history c.args.calls.now (g.C.SaveCalls.told c.args.calls.now) _ c.args.name.now c.args.bytes.now c.in_err-way.ensures.refused)

pub returns-in-New-clause-saved : goal.returns-in-New-clause-saved
returns-in-New-clause-saved g c =
    let is : c.way_of.result ≡ Ok way.New = cc in
    saved-at g.C.SaveCalls.history c.args.calls.now c.replace.new.calls (g.C.SaveCalls.told c.args.calls.now) None c.args.name.now c.args.name.now c.args.bytes.now c.replace.result (c.way_of.ensures.new is, refl) c.replace.ensures.taken

pub returns-in-New-clause-unsaved : goal.returns-in-New-clause-unsaved
returns-in-New-clause-unsaved g c =
    let is : c.way_of.result ≡ Ok way.New = cc in
    unsaved-at g.C.SaveCalls.history c.args.calls.now c.replace.new.calls (g.C.SaveCalls.told c.args.calls.now) None c.args.name.now c.args.name.now c.args.bytes.now c.replace.result (c.way_of.ensures.new is, refl) c.replace.ensures.not_taken

pub returns-in-InPlace-clause-saved : goal.returns-in-InPlace-clause-saved
returns-in-InPlace-clause-saved g c =
    let is : c.way_of.result ≡ Ok way.InPlace = cc in
    saved-over g.C.SaveCalls.history c.args.calls.now c.overwrite.new.self (g.C.SaveCalls.told c.args.calls.now) c.args.name.now c.args.bytes.now c.overwrite.result (c.way_of.ensures.in_place is) c.overwrite.ensures.made

pub returns-in-InPlace-clause-unsaved : goal.returns-in-InPlace-clause-unsaved
returns-in-InPlace-clause-unsaved g c =
    let is : c.way_of.result ≡ Ok way.InPlace = cc in
    unsaved-over g.C.SaveCalls.history c.args.calls.now c.overwrite.new.self (g.C.SaveCalls.told c.args.calls.now) c.args.name.now c.args.bytes.now c.overwrite.result (c.way_of.ensures.in_place is) c.overwrite.ensures.made
