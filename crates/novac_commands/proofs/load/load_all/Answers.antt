use Rattle.std.proofs.lemmas.Result.{err_from_is_err_and}
use Rattle.novac_commands.specs.inner.Contents.{contents_of}
use Rattle.novac_commands.proofs.Loads.{loaded-none, loaded-next, unread-next, asked-next}
use Rattle.novac_commands.proofs.load.load_all.Goals as goal

pub loop-input-init : goal.loop-input-init
loop-input-init g c = rw c.new-contents.ensures.items (loaded-none g.F.Files.tells g.F.Files.held g.F.Files.history g.F.Files.load_faults g.F.Files.save_faults c.args.files.now)

pub loop-input-preserved : goal.loop-input-preserved
loop-input-preserved g c =
    loaded-next g.F.Files.tells g.F.Files.held g.F.Files.history g.F.Files.load_faults g.F.Files.save_faults c.args.files.now c.loop-input.files c.load.new.files c.args.inputs.now c.loop-input.input-index _
    c.loop-input.contents.items c.push.new.self.items c.in_ok-bytes.bytes c.loop-input-test.true c.loop-input.invariant c.in_ok-bytes.ensures.read c.load.ensures.asked c.load.ensures.held
    c.load.ensures.load_faults c.load.ensures.save_faults c.in_ok-push.ensures.items

pub returns-in_err-bytes-clause-unread : goal.returns-in_err-bytes-clause-unread
returns-in_err-bytes-clause-unread g c =
    let p = err_from_is_err_and c.from_residual.result c.from_residual.ensures.1 in
    rw (p.1, p.2) (unread-next g.F.Files.tells g.F.Files.held g.F.Files.history g.F.Files.load_faults g.F.Files.save_faults c.args.files.now c.loop-input.files c.load.new.files c.args.inputs.now c.loop-input.input-index _ (contents_of c.loop-input.contents.items) _ c.loop-input-test.true c.loop-input.invariant c.in_err-bytes.ensures.unread)

pub returns-in_err-bytes-clause-asked : goal.returns-in_err-bytes-clause-asked
returns-in_err-bytes-clause-asked g c =
    asked-next g.F.Files.tells g.F.Files.held g.F.Files.history g.F.Files.load_faults g.F.Files.save_faults c.args.files.now c.loop-input.files c.load.new.files c.args.inputs.now c.loop-input.input-index _ (contents_of c.loop-input.contents.items) c.loop-input-test.true c.loop-input.invariant c.load.ensures.asked

pub returns-in_err-push-clause-asked : goal.returns-in_err-push-clause-asked
returns-in_err-push-clause-asked g c =
    asked-next g.F.Files.tells g.F.Files.held g.F.Files.history g.F.Files.load_faults g.F.Files.save_faults c.args.files.now c.loop-input.files c.load.new.files c.args.inputs.now c.loop-input.input-index _ (contents_of c.loop-input.contents.items) c.loop-input-test.true c.loop-input.invariant c.load.ensures.asked
