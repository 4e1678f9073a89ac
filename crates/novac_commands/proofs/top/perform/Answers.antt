use Rattle.std.proofs.Common.{ℕ, List, map}
use Rattle.std.proofs.lemmas.Result.{err_from_is_err_and}
use Rattle.nv_outside.specs.Calls.{Save}
use Rattle.nv_outside.specs.Causes.{Rose}
use Rattle.nv_outside.proofs.Calls.{at_most-both, at_most-part, at_most-first}
use Rattle.novac_words.specs.Command.{outputs_of}
use Rattle.novac_words.specs.inner.Words.{command_as}
use Rattle.novac_commands.specs.Loading.{inputs_of, loads_of}
use Rattle.novac_commands.specs.inner.Contents.{contents_of}
use Rattle.novac_machine.specs.Saving.{saves_of}
use Rattle.novac_machine.specs.inner.Files.{files_of}
use Rattle.novac_commands.proofs.Asked.{made-part}
use Rattle.novac_machine.proofs.Saves.{rose-later}
use Rattle.novac_commands.proofs.Saves.{saves-end, pass-unread, pass-refused}
use Rattle.novac_commands.proofs.top.perform.Goals as goal

pub returns-clause-ended : goal.returns-clause-ended
returns-clause-ended g c =
    saves-end g.F.Files.tells (g.F.Files.held c.args.files.now) (g.F.Files.held c.load_inputs.new.files) (g.F.Files.held c.save.new.files) (λ (q : List ℕ). Rose (g.F.Files.save_faults c.args.files.now q) (g.F.Files.save_faults c.save.new.files q)) (λ (q : List ℕ). Rose (g.F.Files.save_faults c.load_inputs.new.files q) (g.F.Files.save_faults c.save.new.files q))
    (command_as c.args.command) (contents_of c.in_ok-inputs.inputs.items) c.in_ok-made.made.status c.save.result.status (files_of c.in_ok-made.made.outputs) c.in_ok-made.made.text.items c.save.result.text.items
    c.in_ok-inputs.ensures.held (λ q. rose-later (g.F.Files.save_faults c.args.files.now q) (g.F.Files.save_faults c.load_inputs.new.files q) (g.F.Files.save_faults c.save.new.files q) (c.in_ok-inputs.ensures.save_faults q))
    c.in_ok-inputs.ensures.read c.in_ok-made.ensures.made c.save.ensures.saved

pub returns-in_err-inputs-clause-refused : goal.returns-in_err-inputs-clause-refused
returns-in_err-inputs-clause-refused g c =
    let p = err_from_is_err_and c.from_residual.result c.from_residual.ensures.1 in
    rw (p.1, p.2) (pass-unread g.F.Files.tells (g.F.Files.held c.args.files.now) (λ (q : List ℕ). Rose (g.F.Files.load_faults c.args.files.now q) (g.F.Files.load_faults c.load_inputs.new.files q)) (command_as c.args.command) _ c.in_err-inputs.ensures.unread)

pub returns-in_err-made-clause-refused : goal.returns-in_err-made-clause-refused
returns-in_err-made-clause-refused g c =
    let p = err_from_is_err_and c.from_residual-in_err-made.result c.from_residual-in_err-made.ensures.1 in
    rw (p.1, p.2) (pass-refused g.F.Files.tells (g.F.Files.held c.args.files.now) (λ (q : List ℕ). Rose (g.F.Files.load_faults c.args.files.now q) (g.F.Files.load_faults c.load_inputs.new.files q)) (command_as c.args.command) (contents_of c.in_ok-inputs.inputs.items) _ c.in_ok-inputs.ensures.read c.in_err-made.ensures.refused)

pub returns-clause-asked : goal.returns-clause-asked
returns-clause-asked g c =
    at_most-both g.F.Files.history c.args.files.now c.load_inputs.new.files c.save.new.files (loads_of (inputs_of (command_as c.args.command))) (map (λ (name : List ℕ). Save name) (outputs_of (command_as c.args.command)))
    c.in_ok-inputs.ensures.asked
    (at_most-part g.F.Files.history c.load_inputs.new.files c.save.new.files (saves_of (files_of c.in_ok-made.made.outputs)) (map (λ (name : List ℕ). Save name) (outputs_of (command_as c.args.command))) c.save.ensures.asked
    (made-part (command_as c.args.command) (contents_of c.in_ok-inputs.inputs.items) c.in_ok-made.made.status (files_of c.in_ok-made.made.outputs) c.in_ok-made.made.text.items c.in_ok-made.ensures.made))

pub returns-in_err-inputs-clause-asked : goal.returns-in_err-inputs-clause-asked
returns-in_err-inputs-clause-asked g c =
    at_most-first g.F.Files.history c.args.files.now c.load_inputs.new.files (loads_of (inputs_of (command_as c.args.command))) (map (λ (name : List ℕ). Save name) (outputs_of (command_as c.args.command))) c.in_err-inputs.ensures.asked

pub returns-in_err-made-clause-asked : goal.returns-in_err-made-clause-asked
returns-in_err-made-clause-asked g c =
    at_most-first g.F.Files.history c.args.files.now c.load_inputs.new.files (loads_of (inputs_of (command_as c.args.command))) (map (λ (name : List ℕ). Save name) (outputs_of (command_as c.args.command))) c.in_ok-inputs.ensures.asked
