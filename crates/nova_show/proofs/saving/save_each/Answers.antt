use Rattle.std.proofs.Common.{rules}
use Rattle.nova_show.proofs.Saves.{has-next, asked-next, unsaved-next, asked-all}
use Rattle.nova_show.proofs.saving.save_each.Goals as goal

pub loop-saving-preserved : goal.loop-saving-preserved
loop-saving-preserved g c =
    has-next g.F.Files.tells g.K.Sink.tells g.F.Files.held g.F.Files.history g.F.Files.save_faults g.K.Sink.written g.K.Sink.faults c.args.files.now c.loop-saving.files c.save.new.files c.args.out.now c.loop-saving.out c.save.new.out
    c.args.savings.now c.loop-saving.saving-index c.saving-item.result c.loop-saving-test.true c.saving-item.is c.loop-saving.invariant
    record {
      asked = c.save.ensures.asked;
      saved = λ t. c.save.ensures.held t c.if-not-save.false;
      printed = λ u. c.save.ensures.printed u c.if-not-save.false;
      no_fault = c.save.ensures.no_fault c.if-not-save.false;
      no_print_fault = c.save.ensures.no_print_fault c.if-not-save.false;
    }

pub returns-then-not-save-clause-asked : goal.returns-then-not-save-clause-asked
returns-then-not-save-clause-asked g c =
    asked-next g.F.Files.tells g.K.Sink.tells g.F.Files.held g.F.Files.history g.F.Files.save_faults g.K.Sink.written g.K.Sink.faults c.args.files.now c.loop-saving.files c.save.new.files c.args.out.now c.loop-saving.out c.save.new.out
    c.args.savings.now c.loop-saving.saving-index c.saving-item.result c.loop-saving-test.true c.saving-item.is c.loop-saving.invariant c.save.ensures.asked

pub returns-then-not-save-clause-cause : goal.returns-then-not-save-clause-cause
returns-then-not-save-clause-cause g c = λ failed.
    unsaved-next g.F.Files.tells g.K.Sink.tells g.F.Files.held g.F.Files.history g.F.Files.save_faults g.K.Sink.written g.K.Sink.faults c.args.files.now c.loop-saving.files c.save.new.files c.args.out.now c.loop-saving.out c.save.new.out
    c.args.savings.now c.loop-saving.saving-index c.saving-item.result c.loop-saving-test.true c.saving-item.is c.loop-saving.invariant (c.save.ensures.cause c.if-not-save.true)

pub returns-clause-asked : goal.returns-clause-asked
returns-clause-asked g c = asked-all g.F.Files.history c.args.files.now c.loop-saving.files c.args.savings.now c.loop-saving.saving-index (search rules) c.loop-saving.invariant.asked
