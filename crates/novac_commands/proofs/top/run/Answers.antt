use Rattle.std.proofs.Common.{◌≡◌, ℕ, List, ◌++◌, refl, ap, subst}
use Rattle.nv_outside.specs.Causes.{Rose}
use Rattle.nv_outside.specs.Holding.{AppendsFront}
use Rattle.novac_words.specs.Command.{command_of, texts_of}
use Rattle.novac_words.specs.Lines.{usage_text, cannot_read, cannot_write}
use Rattle.novac_commands.proofs.Completeness.{complete, made-complete, memory-complete, memory-made}
use Rattle.novac_commands.proofs.Printing.{compiled, reported, generated, memory-generated, printed, begun, only-refused, only-shown, only-made, read-fault, write-fault, unchanged, elsewhere, all-same, memory-printed}
use Rattle.novac_commands.proofs.Agreed.{agreed}
use Rattle.novac_commands.proofs.Promised.{headline}
use Rattle.novac_words.proofs.Names.{words-apart}
use Rattle.novac_commands.proofs.top.run.Goals as goal

pub returns-in-Ok-clause-headline : goal.returns-in-Ok-clause-headline
returns-in-Ok-clause-headline g c = λ t done.
    headline (g.F.Files.held c.args.files.now) (g.F.Files.held c.reply.new.files) (λ (line : List ℕ). g.K.Sink.tells → g.K.Sink.written c.print.new.out ≡ g.K.Sink.written c.args.out.now ++ line) (command_of (texts_of c.args.words.now))
    (compiled g.F.Files.tells (g.F.Files.held c.args.files.now) (g.F.Files.held c.reply.new.files) (λ (q : List ℕ). Rose (g.F.Files.load_faults c.args.files.now q) (g.F.Files.load_faults c.reply.new.files q)) (λ (q : List ℕ). Rose (g.F.Files.save_faults c.args.files.now q) (g.F.Files.save_faults c.reply.new.files q))
    c.in-Ok.reply.status c.print.result c.in-Ok.reply.text.items (g.K.Sink.written c.args.out.now) (g.K.Sink.written c.print.new.out) g.K.Sink.tells _ t c.print.ensures.printed (command_of (texts_of c.args.words.now)) (words-apart (texts_of c.args.words.now)) c.in-Ok.ensures.ended done)

pub returns-in-Ok-clause-compiled : goal.returns-in-Ok-clause-compiled
returns-in-Ok-clause-compiled g c = λ t.
    compiled g.F.Files.tells (g.F.Files.held c.args.files.now) (g.F.Files.held c.reply.new.files) (λ (q : List ℕ). Rose (g.F.Files.load_faults c.args.files.now q) (g.F.Files.load_faults c.reply.new.files q)) (λ (q : List ℕ). Rose (g.F.Files.save_faults c.args.files.now q) (g.F.Files.save_faults c.reply.new.files q))
    c.in-Ok.reply.status c.print.result c.in-Ok.reply.text.items (g.K.Sink.written c.args.out.now) (g.K.Sink.written c.print.new.out) g.K.Sink.tells _ t c.print.ensures.printed (command_of (texts_of c.args.words.now)) (words-apart (texts_of c.args.words.now)) c.in-Ok.ensures.ended

pub returns-in-Ok-clause-without : goal.returns-in-Ok-clause-without
returns-in-Ok-clause-without g c = λ t.
    reported g.F.Files.tells (g.F.Files.held c.args.files.now) (g.F.Files.held c.reply.new.files) (λ (q : List ℕ). Rose (g.F.Files.load_faults c.args.files.now q) (g.F.Files.load_faults c.reply.new.files q)) (λ (q : List ℕ). Rose (g.F.Files.save_faults c.args.files.now q) (g.F.Files.save_faults c.reply.new.files q))
    c.in-Ok.reply.status c.print.result c.in-Ok.reply.text.items (g.K.Sink.written c.args.out.now) (g.K.Sink.written c.print.new.out) g.K.Sink.tells _ t c.print.ensures.printed (command_of (texts_of c.args.words.now)) c.in-Ok.ensures.ended

pub returns-in-Ok-clause-generated : goal.returns-in-Ok-clause-generated
returns-in-Ok-clause-generated g c =
    generated g.F.Files.tells (g.F.Files.held c.args.files.now) (g.F.Files.held c.reply.new.files) (λ (q : List ℕ). Rose (g.F.Files.load_faults c.args.files.now q) (g.F.Files.load_faults c.reply.new.files q)) (λ (q : List ℕ). Rose (g.F.Files.save_faults c.args.files.now q) (g.F.Files.save_faults c.reply.new.files q))
    c.in-Ok.reply.status c.print.result c.in-Ok.reply.text.items (g.K.Sink.written c.args.out.now) (g.K.Sink.written c.print.new.out) g.K.Sink.tells _ c.print.ensures.printed (command_of (texts_of c.args.words.now)) c.in-Ok.ensures.ended

pub returns-in-Err-clause-generated : goal.returns-in-Err-clause-generated
returns-in-Err-clause-generated g c = memory-generated (command_of (texts_of c.args.words.now)) _ _ _

pub returns-in-Ok-clause-answered : goal.returns-in-Ok-clause-answered
returns-in-Ok-clause-answered g c =
    printed g.F.Files.tells (g.F.Files.held c.args.files.now) (g.F.Files.held c.reply.new.files) (λ (q : List ℕ). Rose (g.F.Files.load_faults c.args.files.now q) (g.F.Files.load_faults c.reply.new.files q)) (λ (q : List ℕ). Rose (g.F.Files.save_faults c.args.files.now q) (g.F.Files.save_faults c.reply.new.files q))
    c.in-Ok.reply.status c.print.result c.in-Ok.reply.text.items (g.K.Sink.written c.args.out.now) (g.K.Sink.written c.print.new.out) g.K.Sink.tells _ c.print.ensures.printed (command_of (texts_of c.args.words.now)) c.in-Ok.ensures.ended

pub returns-in-Ok-clause-begun : goal.returns-in-Ok-clause-begun
returns-in-Ok-clause-begun g c =
    begun g.F.Files.tells (g.F.Files.held c.args.files.now) (g.F.Files.held c.reply.new.files) (λ (q : List ℕ). Rose (g.F.Files.load_faults c.args.files.now q) (g.F.Files.load_faults c.reply.new.files q)) (λ (q : List ℕ). Rose (g.F.Files.save_faults c.args.files.now q) (g.F.Files.save_faults c.reply.new.files q))
    c.in-Ok.reply.status c.print.result c.in-Ok.reply.text.items (g.K.Sink.written c.args.out.now) (g.K.Sink.written c.print.new.out) g.K.Sink.tells _ c.print.ensures.printed c.print.ensures.front (command_of (texts_of c.args.words.now)) c.in-Ok.ensures.ended

pub returns-in-Ok-clause-only_refused : goal.returns-in-Ok-clause-only_refused
returns-in-Ok-clause-only_refused g c = λ t.
    only-refused g.F.Files.tells (g.F.Files.held c.args.files.now) (g.F.Files.held c.reply.new.files) (λ (q : List ℕ). Rose (g.F.Files.load_faults c.args.files.now q) (g.F.Files.load_faults c.reply.new.files q)) (λ (q : List ℕ). Rose (g.F.Files.save_faults c.args.files.now q) (g.F.Files.save_faults c.reply.new.files q))
    c.in-Ok.reply.status c.print.result c.in-Ok.reply.text.items (g.K.Sink.written c.args.out.now) (g.K.Sink.written c.print.new.out) g.K.Sink.tells _ t c.print.ensures.printed (command_of (texts_of c.args.words.now)) c.in-Ok.ensures.ended

pub returns-in-Ok-clause-only_shown : goal.returns-in-Ok-clause-only_shown
returns-in-Ok-clause-only_shown g c = λ t.
    only-shown g.F.Files.tells (g.F.Files.held c.args.files.now) (g.F.Files.held c.reply.new.files) (λ (q : List ℕ). Rose (g.F.Files.load_faults c.args.files.now q) (g.F.Files.load_faults c.reply.new.files q)) (λ (q : List ℕ). Rose (g.F.Files.save_faults c.args.files.now q) (g.F.Files.save_faults c.reply.new.files q))
    c.in-Ok.reply.status c.print.result c.in-Ok.reply.text.items (g.K.Sink.written c.args.out.now) (g.K.Sink.written c.print.new.out) g.K.Sink.tells _ t c.print.ensures.printed (command_of (texts_of c.args.words.now)) c.in-Ok.ensures.ended

pub returns-in-Ok-clause-only_made : goal.returns-in-Ok-clause-only_made
returns-in-Ok-clause-only_made g c = λ t.
    only-made g.F.Files.tells (g.F.Files.held c.args.files.now) (g.F.Files.held c.reply.new.files) (λ (q : List ℕ). Rose (g.F.Files.load_faults c.args.files.now q) (g.F.Files.load_faults c.reply.new.files q)) (λ (q : List ℕ). Rose (g.F.Files.save_faults c.args.files.now q) (g.F.Files.save_faults c.reply.new.files q))
    c.in-Ok.reply.status c.print.result c.in-Ok.reply.text.items (g.K.Sink.written c.args.out.now) (g.K.Sink.written c.print.new.out) g.K.Sink.tells _ t c.print.ensures.printed (command_of (texts_of c.args.words.now)) c.in-Ok.ensures.ended

pub returns-in-Ok-clause-usage_begun : goal.returns-in-Ok-clause-usage_begun
returns-in-Ok-clause-usage_begun g c = λ t w none.
    let usage : c.in-Ok.reply.text.items ≡ usage_text = (c.in-Ok.ensures.usage (c.in-Ok.ensures.only_usage none)).1 in
    subst (λ (x : List ℕ). AppendsFront (g.K.Sink.written c.args.out.now) (g.K.Sink.written c.print.new.out) x) usage (c.print.ensures.front t)

pub returns-in-Ok-clause-read_fault : goal.returns-in-Ok-clause-read_fault
returns-in-Ok-clause-read_fault g c =
    read-fault g.F.Files.tells (g.F.Files.held c.args.files.now) (g.F.Files.held c.reply.new.files) (λ (q : List ℕ). Rose (g.F.Files.load_faults c.args.files.now q) (g.F.Files.load_faults c.reply.new.files q)) (λ (q : List ℕ). Rose (g.F.Files.save_faults c.args.files.now q) (g.F.Files.save_faults c.reply.new.files q))
    c.in-Ok.reply.status c.print.result c.in-Ok.reply.text.items (g.K.Sink.written c.args.out.now) (g.K.Sink.written c.print.new.out) g.K.Sink.tells _ c.print.ensures.printed (command_of (texts_of c.args.words.now)) (λ none. c.in-Ok.ensures.only_usage none) c.in-Ok.ensures.ended

pub returns-in-Ok-clause-write_fault : goal.returns-in-Ok-clause-write_fault
returns-in-Ok-clause-write_fault g c =
    write-fault g.F.Files.tells (g.F.Files.held c.args.files.now) (g.F.Files.held c.reply.new.files) (λ (q : List ℕ). Rose (g.F.Files.load_faults c.args.files.now q) (g.F.Files.load_faults c.reply.new.files q)) (λ (q : List ℕ). Rose (g.F.Files.save_faults c.args.files.now q) (g.F.Files.save_faults c.reply.new.files q))
    c.in-Ok.reply.status c.print.result c.in-Ok.reply.text.items (g.K.Sink.written c.args.out.now) (g.K.Sink.written c.print.new.out) g.K.Sink.tells _ c.print.ensures.printed (command_of (texts_of c.args.words.now)) (λ none. c.in-Ok.ensures.only_usage none) c.in-Ok.ensures.ended

pub returns-in-Ok-clause-unchanged : goal.returns-in-Ok-clause-unchanged
returns-in-Ok-clause-unchanged g c = λ t.
    unchanged g.F.Files.tells (g.F.Files.held c.args.files.now) (g.F.Files.held c.reply.new.files) (λ (q : List ℕ). Rose (g.F.Files.load_faults c.args.files.now q) (g.F.Files.load_faults c.reply.new.files q)) (λ (q : List ℕ). Rose (g.F.Files.save_faults c.args.files.now q) (g.F.Files.save_faults c.reply.new.files q))
    c.in-Ok.reply.status c.print.result c.in-Ok.reply.text.items (g.K.Sink.written c.args.out.now) (g.K.Sink.written c.print.new.out) g.K.Sink.tells _ t c.print.ensures.printed (command_of (texts_of c.args.words.now)) (λ none. ap g.F.Files.held (c.in-Ok.ensures.untouched none)) c.in-Ok.ensures.ended

pub returns-in-Ok-clause-elsewhere : goal.returns-in-Ok-clause-elsewhere
returns-in-Ok-clause-elsewhere g c = λ t.
    elsewhere g.F.Files.tells (g.F.Files.held c.args.files.now) (g.F.Files.held c.reply.new.files) (λ (q : List ℕ). Rose (g.F.Files.load_faults c.args.files.now q) (g.F.Files.load_faults c.reply.new.files q)) (λ (q : List ℕ). Rose (g.F.Files.save_faults c.args.files.now q) (g.F.Files.save_faults c.reply.new.files q)) c.in-Ok.reply.status c.in-Ok.reply.text.items t (command_of (texts_of c.args.words.now)) c.in-Ok.ensures.ended

pub returns-in-Err-clause-answered : goal.returns-in-Err-clause-answered
returns-in-Err-clause-answered g c = λ _.
    memory-printed g.F.Files.tells (g.F.Files.held c.args.files.now) (g.F.Files.held c.reply.new.files) (λ (q : List ℕ). Rose (g.F.Files.load_faults c.args.files.now q) (g.F.Files.load_faults c.reply.new.files q)) (g.K.Sink.written c.args.out.now) g.K.Sink.tells (command_of (texts_of c.args.words.now)) c.in-Err.ensures.held

pub returns-in-Err-clause-elsewhere : goal.returns-in-Err-clause-elsewhere
returns-in-Err-clause-elsewhere g c = λ t.
    all-same (g.F.Files.held c.args.files.now) (g.F.Files.held c.reply.new.files) (command_of (texts_of c.args.words.now)) c.in-Err.ensures.held

pub returns-in-Ok-clause-complete : goal.returns-in-Ok-clause-complete
returns-in-Ok-clause-complete g c = λ t.
    complete g.F.Files.tells (g.F.Files.held c.args.files.now) (λ (q : List ℕ). Rose (g.F.Files.load_faults c.args.files.now q) (g.F.Files.load_faults c.reply.new.files q)) (λ (q : List ℕ). Rose (g.F.Files.save_faults c.args.files.now q) (g.F.Files.save_faults c.reply.new.files q))
    (Rose (g.K.Sink.faults c.args.out.now) (g.K.Sink.faults c.print.new.out)) (λ (q : List ℕ). g.K.Sink.tells → g.K.Sink.written c.print.new.out ≡ g.K.Sink.written c.args.out.now ++ cannot_read q) (λ (q : List ℕ). g.K.Sink.tells → g.K.Sink.written c.print.new.out ≡ g.K.Sink.written c.args.out.now ++ cannot_write q)
    c.print.result (command_of (texts_of c.args.words.now)) (record {
      made = returns-in-Ok-clause-only_made g c t;
      unread = returns-in-Ok-clause-read_fault g c;
      unwritten = returns-in-Ok-clause-write_fault g c;
    })

pub returns-in-Err-clause-complete : goal.returns-in-Err-clause-complete
returns-in-Err-clause-complete g c = λ t. memory-complete _ _ _ _ _ (command_of (texts_of c.args.words.now)) refl

pub returns-in-Ok-clause-made : goal.returns-in-Ok-clause-made
returns-in-Ok-clause-made g c =
    made-complete (λ (q : List ℕ). Rose (g.F.Files.save_faults c.args.files.now q) (g.F.Files.save_faults c.reply.new.files q)) (Rose (g.K.Sink.faults c.args.out.now) (g.K.Sink.faults c.print.new.out)) g.K.Sink.tells (λ (q : List ℕ). g.K.Sink.tells → g.K.Sink.written c.print.new.out ≡ g.K.Sink.written c.args.out.now ++ cannot_write q)
    c.print.result (g.K.Sink.written c.args.out.now) (g.K.Sink.written c.print.new.out) (command_of (texts_of c.args.words.now)) (returns-in-Ok-clause-generated g c) (returns-in-Ok-clause-write_fault g c)

pub returns-in-Err-clause-made : goal.returns-in-Err-clause-made
returns-in-Err-clause-made g c = memory-made _ _ (command_of (texts_of c.args.words.now)) refl

pub returns-in-Ok-clause-agreed : goal.returns-in-Ok-clause-agreed
returns-in-Ok-clause-agreed g c = λ t.
    agreed g.F.Files.tells g.K.Sink.tells (g.F.Files.held c.args.files.now) (g.F.Files.held c.reply.new.files) (λ (q : List ℕ). Rose (g.F.Files.load_faults c.args.files.now q) (g.F.Files.load_faults c.reply.new.files q))
    (command_of (texts_of c.args.words.now)) c.print.result (g.K.Sink.written c.args.out.now) (g.K.Sink.written c.print.new.out) t (returns-in-Ok-clause-answered g c)

pub returns-in-Err-clause-agreed : goal.returns-in-Err-clause-agreed
returns-in-Err-clause-agreed g c = λ t.
    agreed g.F.Files.tells g.K.Sink.tells (g.F.Files.held c.args.files.now) (g.F.Files.held c.reply.new.files) (λ (q : List ℕ). Rose (g.F.Files.load_faults c.args.files.now q) (g.F.Files.load_faults c.reply.new.files q))
    (command_of (texts_of c.args.words.now)) _ (g.K.Sink.written c.args.out.now) _ t (returns-in-Err-clause-answered g c)
