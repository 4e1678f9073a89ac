use Rattle.std.proofs.Common.{List, ℕ, [], ◌∷◌, ap, subst}
use Rattle.nv_outside.specs.Calls.{Save}
use Rattle.nv_outside.specs.Holding.{Replaced}
use Rattle.nv_outside.proofs.Calls.{at_most-none, at_most-one, at_most-both, at_most-first}
use Rattle.novac_machine.specs.Saving.{saves_of}
use Rattle.novac_machine.specs.declared.save.Outputs.{Outputs}
use Rattle.novac_machine.specs.inner.Files.{file_of, files_of}
use Rattle.novac_machine.proofs.Saves.{second-saved}
use Rattle.novac_machine.proofs.save.Made.save.Goals as goal

pub returns-in-Nothing-clause-asked : goal.returns-in-Nothing-clause-asked
returns-in-Nothing-clause-asked g c = at_most-none g.F.Files.history c.args.files.now (saves_of (files_of c.args.self.outputs))

pub returns-in-One-clause-asked : goal.returns-in-One-clause-asked
returns-in-One-clause-asked g c = rw c.in-One.is (at_most-one g.F.Files.history c.args.files.now c.save.new.files (Save c.in-One.output.name.now) c.save.ensures.asked)

pub returns-in-Failed-clause-asked : goal.returns-in-Failed-clause-asked
returns-in-Failed-clause-asked g c =
    rw c.in-Two.is (at_most-first g.F.Files.history c.args.files.now c.save-in-Two.new.self (Save c.in-Two.first.name.now ∷ []) (Save c.in-Two.second.name.now ∷ []) (at_most-one g.F.Files.history c.args.files.now c.save-in-Two.new.self (Save c.in-Two.first.name.now) c.save-in-Two.ensures.asked))

pub returns-in-Done : goal.returns-in-Done
returns-in-Done g c = record {
  asked = rw c.in-Two.is
      (at_most-both g.F.Files.history c.args.files.now c.save-in-Two.new.self c.save-in-Done.new.files (Save c.in-Two.first.name.now ∷ []) (Save c.in-Two.second.name.now ∷ [])
      (at_most-one g.F.Files.history c.args.files.now c.save-in-Two.new.self (Save c.in-Two.first.name.now) c.save-in-Two.ensures.asked) (at_most-one g.F.Files.history c.save-in-Two.new.self c.save-in-Done.new.files (Save c.in-Two.second.name.now) c.save-in-Done.ensures.asked));
  saved = second-saved g.F.Files.tells (file_of c.in-Two.first) (file_of c.in-Two.second) (g.F.Files.held c.args.files.now) (g.F.Files.held c.save-in-Two.new.self) (g.F.Files.held c.save-in-Done.new.files)
      (g.F.Files.save_faults c.args.files.now) (g.F.Files.save_faults c.save-in-Two.new.self) (g.F.Files.save_faults c.save-in-Done.new.files) c.args.self.status c.save-in-Done.result.status c.args.self.text.items c.save-in-Done.result.text.items
      (files_of c.args.self.outputs) (ap (λ (x : Outputs). files_of x) c.in-Two.is)
      (λ tells. subst (λ (x : List ℕ). Replaced (g.F.Files.held c.args.files.now) (g.F.Files.held c.save-in-Two.new.self) c.in-Two.first.name.now x) c.deref.ensures.value (c.save-in-Two.ensures.done tells c.in-Done.is))
      (λ q. c.save-in-Two.ensures.save_faults q) c.save-in-Done.ensures.saved;
}
