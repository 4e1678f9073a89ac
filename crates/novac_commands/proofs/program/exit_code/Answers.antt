use Rattle.std.proofs.Common.{◌≡◌, ◌∙◌, sym, refl, inl, inr, ap, List, ℕ}
use Rattle.std.proofs.lemmas.Bool.{false≢true}
use Rattle.std.proofs.lemmas.Result.{IfErr-weaker}
use Rattle.nv_outside.specs.Causes.{Rose}
use Rattle.novac_words.specs.Command.{command_of}
use Rattle.novac_words.specs.declared.status.Status.TheVariants as status
use Rattle.novac_commands.specs.Exits.{words_given}
use Rattle.novac_commands.proofs.Agreed.{agreed}
use Rattle.novac_commands.proofs.Completeness.{memory-complete, memory-made}
use Rattle.novac_commands.proofs.Ending.{always, any-error, asks-nothing}
use Rattle.novac_commands.proofs.Printing.{all-same, memory-generated, memory-printed}
use Rattle.novac_commands.proofs.program.exit_code.Goals as goal

-- the words are those of the command line
pub returns-in-Ok-clause-headline : goal.returns-in-Ok-clause-headline
returns-in-Ok-clause-headline g c = (c.run.result, c.from.ensures ∙ c.code.ensures, λ t done. rw (sym c.in-Ok.ensures.words) (c.run.ensures.headline t done))

pub returns-in-Ok-clause-compiled : goal.returns-in-Ok-clause-compiled
returns-in-Ok-clause-compiled g c = (c.run.result, c.from.ensures ∙ c.code.ensures, λ t done. rw (sym c.in-Ok.ensures.words) (c.run.ensures.compiled t done))

pub returns-in-Ok-clause-without : goal.returns-in-Ok-clause-without
returns-in-Ok-clause-without g c = (c.run.result, c.from.ensures ∙ c.code.ensures, λ t. rw (sym c.in-Ok.ensures.words) (c.run.ensures.without t))

pub returns-in-Ok-clause-generated : goal.returns-in-Ok-clause-generated
returns-in-Ok-clause-generated g c = (c.run.result, c.from.ensures ∙ c.code.ensures, rw (sym c.in-Ok.ensures.words) c.run.ensures.generated)

pub returns-in-Ok-clause-complete : goal.returns-in-Ok-clause-complete
returns-in-Ok-clause-complete g c = (c.run.result, c.from.ensures ∙ c.code.ensures, λ t. rw (sym c.in-Ok.ensures.words) (c.run.ensures.complete t))

pub returns-in-Ok-clause-made : goal.returns-in-Ok-clause-made
returns-in-Ok-clause-made g c = (c.run.result, c.from.ensures ∙ c.code.ensures, rw (sym c.in-Ok.ensures.words) c.run.ensures.made)

pub returns-in-Ok-clause-agreed : goal.returns-in-Ok-clause-agreed
returns-in-Ok-clause-agreed g c = (c.run.result, c.from.ensures ∙ c.code.ensures, λ t. rw (sym c.in-Ok.ensures.words) (c.run.ensures.agreed t))

pub returns-in-Ok-clause-answered : goal.returns-in-Ok-clause-answered
returns-in-Ok-clause-answered g c = (c.run.result, c.from.ensures ∙ c.code.ensures, λ is. rw (sym c.in-Ok.ensures.words) (c.run.ensures.answered is))

pub returns-in-Ok-clause-begun : goal.returns-in-Ok-clause-begun
returns-in-Ok-clause-begun g c = (c.run.result, c.from.ensures ∙ c.code.ensures, λ is. rw (sym c.in-Ok.ensures.words) (c.run.ensures.begun is))

pub returns-in-Ok-clause-only_refused : goal.returns-in-Ok-clause-only_refused
returns-in-Ok-clause-only_refused g c = (c.run.result, c.from.ensures ∙ c.code.ensures, λ t. rw (sym c.in-Ok.ensures.words) (c.run.ensures.only_refused t))

pub returns-in-Ok-clause-only_shown : goal.returns-in-Ok-clause-only_shown
returns-in-Ok-clause-only_shown g c = (c.run.result, c.from.ensures ∙ c.code.ensures, λ t. rw (sym c.in-Ok.ensures.words) (c.run.ensures.only_shown t))

pub returns-in-Ok-clause-only_made : goal.returns-in-Ok-clause-only_made
returns-in-Ok-clause-only_made g c = (c.run.result, c.from.ensures ∙ c.code.ensures, λ t. rw (sym c.in-Ok.ensures.words) (c.run.ensures.only_made t))

pub returns-in-Ok-clause-usage : goal.returns-in-Ok-clause-usage
returns-in-Ok-clause-usage g c = (c.run.result, c.from.ensures ∙ c.code.ensures, λ is. rw (sym c.in-Ok.ensures.words) (c.run.ensures.usage is))

pub returns-in-Ok-clause-only_usage : goal.returns-in-Ok-clause-only_usage
returns-in-Ok-clause-only_usage g c = (c.run.result, c.from.ensures ∙ c.code.ensures, λ none. c.run.ensures.only_usage (ap command_of c.in-Ok.ensures.words ∙ none))

pub returns-in-Ok-clause-usage_line : goal.returns-in-Ok-clause-usage_line
returns-in-Ok-clause-usage_line g c = (c.run.result, c.from.ensures ∙ c.code.ensures, c.run.ensures.usage_line)

pub returns-in-Ok-clause-usage_begun : goal.returns-in-Ok-clause-usage_begun
returns-in-Ok-clause-usage_begun g c = (c.run.result, c.from.ensures ∙ c.code.ensures, λ t fault none. c.run.ensures.usage_begun t fault (ap command_of c.in-Ok.ensures.words ∙ none))

pub returns-in-Ok-clause-read_fault : goal.returns-in-Ok-clause-read_fault
returns-in-Ok-clause-read_fault g c = (c.run.result, c.from.ensures ∙ c.code.ensures, λ is. rw (sym c.in-Ok.ensures.words) (c.run.ensures.read_fault is))

pub returns-in-Ok-clause-write_fault : goal.returns-in-Ok-clause-write_fault
returns-in-Ok-clause-write_fault g c = (c.run.result, c.from.ensures ∙ c.code.ensures, λ is. rw (sym c.in-Ok.ensures.words) (c.run.ensures.write_fault is))

pub returns-in-Ok-clause-asked : goal.returns-in-Ok-clause-asked
returns-in-Ok-clause-asked g c = rw (sym c.in-Ok.ensures.words) c.run.ensures.asked

pub returns-in-Ok-clause-unfailed : goal.returns-in-Ok-clause-unfailed
returns-in-Ok-clause-unfailed g c = (c.run.result, c.from.ensures ∙ c.code.ensures, c.run.ensures.unfailed)

pub returns-in-Ok-clause-unchanged : goal.returns-in-Ok-clause-unchanged
returns-in-Ok-clause-unchanged g c = (c.run.result, c.from.ensures ∙ c.code.ensures, c.run.ensures.unchanged)

pub returns-in-Ok-clause-elsewhere : goal.returns-in-Ok-clause-elsewhere
returns-in-Ok-clause-elsewhere g c = rw (sym c.in-Ok.ensures.words) c.run.ensures.elsewhere

pub returns-in-Ok-clause-untouched : goal.returns-in-Ok-clause-untouched
returns-in-Ok-clause-untouched g c = λ none. c.run.ensures.untouched (ap command_of c.in-Ok.ensures.words ∙ none)

pub returns-in-Ok-clause-silent : goal.returns-in-Ok-clause-silent
returns-in-Ok-clause-silent g c = (c.run.result, c.from.ensures ∙ c.code.ensures, c.run.ensures.silent)

pub returns-in-Ok-clause-memory : goal.returns-in-Ok-clause-memory
returns-in-Ok-clause-memory g c = IfErr-weaker c.args.given _ _ (λ e h. λ kind. absurd (false≢true (h.0 kind))) c.in-Ok.ensures.memory

-- there was no memory for them
pub returns-in-Err-clause-headline : goal.returns-in-Err-clause-headline
returns-in-Err-clause-headline g c = (status.NoMemory, c.from-in-Err.ensures ∙ c.code-in-Err.ensures, λ t is. let e : status.NoMemory ≡ status.Done = is in absurd cc)

pub returns-in-Err-clause-compiled : goal.returns-in-Err-clause-compiled
returns-in-Err-clause-compiled g c = (status.NoMemory, c.from-in-Err.ensures ∙ c.code-in-Err.ensures, λ t is. let e : status.NoMemory ≡ status.Done = is in absurd cc)

pub returns-in-Err-clause-without : goal.returns-in-Err-clause-without
returns-in-Err-clause-without g c = (status.NoMemory, c.from-in-Err.ensures ∙ c.code-in-Err.ensures, λ t. tt)

pub returns-in-Err-clause-generated : goal.returns-in-Err-clause-generated
returns-in-Err-clause-generated g c = (status.NoMemory, c.from-in-Err.ensures ∙ c.code-in-Err.ensures, memory-generated (command_of (words_given c.args.given)) (g.K.Sink.written c.args.out.now) (g.K.Sink.written c.args.out.now) g.K.Sink.tells)

pub returns-in-Err-clause-complete : goal.returns-in-Err-clause-complete
returns-in-Err-clause-complete g c = (status.NoMemory, c.from-in-Err.ensures ∙ c.code-in-Err.ensures, λ t. memory-complete (g.F.Files.held c.args.files.now) (λ (q : List ℕ). Rose (g.F.Files.load_faults c.args.files.now q) (g.F.Files.load_faults c.args.files.now q)) (λ (q : List ℕ). Rose (g.F.Files.save_faults c.args.files.now q) (g.F.Files.save_faults c.args.files.now q)) (Rose (g.K.Sink.faults c.args.out.now) (g.K.Sink.faults c.args.out.now)) _ (command_of (words_given c.args.given)) refl)

pub returns-in-Err-clause-made : goal.returns-in-Err-clause-made
returns-in-Err-clause-made g c = (status.NoMemory, c.from-in-Err.ensures ∙ c.code-in-Err.ensures, memory-made (Rose (g.K.Sink.faults c.args.out.now) (g.K.Sink.faults c.args.out.now)) _ (command_of (words_given c.args.given)) refl)

pub returns-in-Err-clause-agreed : goal.returns-in-Err-clause-agreed
returns-in-Err-clause-agreed g c = (status.NoMemory, c.from-in-Err.ensures ∙ c.code-in-Err.ensures, λ t. agreed g.F.Files.tells g.K.Sink.tells (g.F.Files.held c.args.files.now) (g.F.Files.held c.args.files.now) (λ (q : List ℕ). Rose (g.F.Files.load_faults c.args.files.now q) (g.F.Files.load_faults c.args.files.now q)) (command_of (words_given c.args.given)) status.NoMemory (g.K.Sink.written c.args.out.now) (g.K.Sink.written c.args.out.now) t (λ other. memory-printed g.F.Files.tells (g.F.Files.held c.args.files.now) (g.F.Files.held c.args.files.now) (λ (q : List ℕ). Rose (g.F.Files.load_faults c.args.files.now q) (g.F.Files.load_faults c.args.files.now q)) (g.K.Sink.written c.args.out.now) g.K.Sink.tells (command_of (words_given c.args.given)) refl))

pub returns-in-Err-clause-answered : goal.returns-in-Err-clause-answered
returns-in-Err-clause-answered g c = (status.NoMemory, c.from-in-Err.ensures ∙ c.code-in-Err.ensures, λ other. memory-printed g.F.Files.tells (g.F.Files.held c.args.files.now) (g.F.Files.held c.args.files.now) (λ (q : List ℕ). Rose (g.F.Files.load_faults c.args.files.now q) (g.F.Files.load_faults c.args.files.now q)) (g.K.Sink.written c.args.out.now) g.K.Sink.tells (command_of (words_given c.args.given)) refl)

pub returns-in-Err-clause-begun : goal.returns-in-Err-clause-begun
returns-in-Err-clause-begun g c = (status.NoMemory, c.from-in-Err.ensures ∙ c.code-in-Err.ensures, λ is. let e : status.NoMemory ≡ status.WriteFault = is in absurd cc)

pub returns-in-Err-clause-only_refused : goal.returns-in-Err-clause-only_refused
returns-in-Err-clause-only_refused g c = (status.NoMemory, c.from-in-Err.ensures ∙ c.code-in-Err.ensures, λ t. always (command_of (words_given c.args.given)) _ (λ command e why. inl (inr (inr refl))))

pub returns-in-Err-clause-only_shown : goal.returns-in-Err-clause-only_shown
returns-in-Err-clause-only_shown g c = (status.NoMemory, c.from-in-Err.ensures ∙ c.code-in-Err.ensures, λ t. always (command_of (words_given c.args.given)) _ (λ command s text shows. inl (inr (inr refl))))

pub returns-in-Err-clause-only_made : goal.returns-in-Err-clause-only_made
returns-in-Err-clause-only_made g c = (status.NoMemory, c.from-in-Err.ensures ∙ c.code-in-Err.ensures, λ t. always (command_of (words_given c.args.given)) _ (λ command contents read can. inl (inr (inr refl))))

pub returns-in-Err-clause-usage : goal.returns-in-Err-clause-usage
returns-in-Err-clause-usage g c = (status.NoMemory, c.from-in-Err.ensures ∙ c.code-in-Err.ensures, λ is. let e : status.NoMemory ≡ status.Usage = is in absurd cc)

pub returns-in-Err-clause-only_usage : goal.returns-in-Err-clause-only_usage
returns-in-Err-clause-only_usage g c = (status.NoMemory, c.from-in-Err.ensures ∙ c.code-in-Err.ensures, λ none. inr (inr refl))

pub returns-in-Err-clause-usage_line : goal.returns-in-Err-clause-usage_line
returns-in-Err-clause-usage_line g c = (status.NoMemory, c.from-in-Err.ensures ∙ c.code-in-Err.ensures, λ t is. let e : status.NoMemory ≡ status.Usage = is in absurd cc)

pub returns-in-Err-clause-usage_begun : goal.returns-in-Err-clause-usage_begun
returns-in-Err-clause-usage_begun g c = (status.NoMemory, c.from-in-Err.ensures ∙ c.code-in-Err.ensures, λ t is none. let e : status.NoMemory ≡ status.WriteFault = is in absurd cc)

pub returns-in-Err-clause-read_fault : goal.returns-in-Err-clause-read_fault
returns-in-Err-clause-read_fault g c = (status.NoMemory, c.from-in-Err.ensures ∙ c.code-in-Err.ensures, λ is. let e : status.NoMemory ≡ status.ReadFault = is in absurd cc)

pub returns-in-Err-clause-write_fault : goal.returns-in-Err-clause-write_fault
returns-in-Err-clause-write_fault g c = (status.NoMemory, c.from-in-Err.ensures ∙ c.code-in-Err.ensures, λ is. let e : status.NoMemory ≡ status.WriteFault = is in absurd cc)

pub returns-in-Err-clause-asked : goal.returns-in-Err-clause-asked
returns-in-Err-clause-asked g c = asks-nothing g.F.Files.history c.args.files.now (command_of (words_given c.args.given))

pub returns-in-Err-clause-unfailed : goal.returns-in-Err-clause-unfailed
returns-in-Err-clause-unfailed g c = (status.NoMemory, c.from-in-Err.ensures ∙ c.code-in-Err.ensures, λ other. refl)

pub returns-in-Err-clause-unchanged : goal.returns-in-Err-clause-unchanged
returns-in-Err-clause-unchanged g c = (status.NoMemory, c.from-in-Err.ensures ∙ c.code-in-Err.ensures, λ t same. refl)

pub returns-in-Err-clause-elsewhere : goal.returns-in-Err-clause-elsewhere
returns-in-Err-clause-elsewhere g c = λ t. all-same (g.F.Files.held c.args.files.now) (g.F.Files.held c.args.files.now) (command_of (words_given c.args.given)) refl

pub returns-in-Err-clause-silent : goal.returns-in-Err-clause-silent
returns-in-Err-clause-silent g c = (status.NoMemory, c.from-in-Err.ensures ∙ c.code-in-Err.ensures, λ memory. refl)

pub returns-in-Err-clause-memory : goal.returns-in-Err-clause-memory
returns-in-Err-clause-memory g c = any-error c.args.given _ (λ e kind. (status.NoMemory, c.from-in-Err.ensures ∙ c.code-in-Err.ensures, refl))
