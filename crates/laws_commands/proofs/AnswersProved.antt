-- Command by command.
use Rattle.std.proofs.Common.{refl, ℕ, List, [], ◌∷◌, inl}
use Rattle.novac_words.specs.Command.{Command, Compile, Run, Exec, Asm, Dis, Lint, Check, Gen, Contexts, Peep, Trace, Counts}
use Rattle.novac_words.specs.declared.refusal.Refusal.{Refusal}
use Rattle.novac_words.specs.declared.status.Status.{Status}
use Rattle.novac_commands.specs.Answers.{Makes, MustRefuse, Prints, Refuses}
use Rattle.novac_commands.proofs.OneAnswer.{made-end, makes-good, prints-good, prints-one, refusal-one}
use Rattle.laws_commands.specs.Answers.{DecidedAnswers, OneAnswer}

refused : (command : Command) (contents : List (List ℕ)) (e : Refusal) → MustRefuse command contents e → Refuses command contents e
refused (Compile source object report slots budget store weights) [] e h = absurd h
refused (Compile source object report slots budget store weights) (bytes ∷ given) e h = inl h
refused (Run object memory steps) [] e h = absurd h
refused (Run object memory steps) (bytes ∷ []) e h = absurd h
refused (Run object memory steps) (bytes ∷ given ∷ []) e h = h
refused (Run object memory steps) (bytes ∷ given ∷ x ∷ xs) e h = absurd h
refused (Exec source memory calls) [] e h = absurd h
refused (Exec source memory calls) (bytes ∷ []) e h = absurd h
refused (Exec source memory calls) (bytes ∷ given ∷ []) e h = h
refused (Exec source memory calls) (bytes ∷ given ∷ x ∷ xs) e h = absurd h
refused (Asm input object) [] e h = absurd h
refused (Asm input object) (bytes ∷ []) e h = h
refused (Asm input object) (bytes ∷ x ∷ xs) e h = absurd h
refused (Dis object) [] e h = absurd h
refused (Dis object) (bytes ∷ []) e h = h
refused (Dis object) (bytes ∷ x ∷ xs) e h = absurd h
refused (Lint object) [] e h = absurd h
refused (Lint object) (bytes ∷ []) e h = h
refused (Lint object) (bytes ∷ x ∷ xs) e h = absurd h
refused (Check report) [] e h = absurd h
refused (Check report) (bytes ∷ []) e h = h
refused (Check report) (bytes ∷ x ∷ xs) e h = absurd h
refused (Gen seed size) contents e h = absurd h
refused (Contexts object memory schedule) [] e h = absurd h
refused (Contexts object memory schedule) (bytes ∷ []) e h = absurd h
refused (Contexts object memory schedule) (bytes ∷ given ∷ []) e h = absurd h
refused (Contexts object memory schedule) (bytes ∷ given ∷ turns ∷ []) e h = h
refused (Contexts object memory schedule) (bytes ∷ given ∷ turns ∷ x ∷ xs) e h = absurd h
refused (Peep object output) [] e h = absurd h
refused (Peep object output) (bytes ∷ []) e h = h
refused (Peep object output) (bytes ∷ x ∷ xs) e h = absurd h
refused (Trace source object memory steps calls line) [] e h = absurd h
refused (Trace source object memory steps calls line) (source_text ∷ []) e h = absurd h
refused (Trace source object memory steps calls line) (source_text ∷ bytes ∷ []) e h = absurd h
refused (Trace source object memory steps calls line) (source_text ∷ bytes ∷ given ∷ []) e h = h
refused (Trace source object memory steps calls line) (source_text ∷ bytes ∷ given ∷ x ∷ xs) e h = absurd h
refused (Counts source memory output jumps) [] e h = absurd h
refused (Counts source memory output jumps) (bytes ∷ []) e h = absurd h
refused (Counts source memory output jumps) (bytes ∷ given ∷ []) e h = h
refused (Counts source memory output jumps) (bytes ∷ given ∷ x ∷ xs) e h = absurd h

printed : (command : Command) (contents : List (List ℕ)) (status : Status) (text : List ℕ) → Prints command contents status text → Makes command contents status [] text
printed (Compile source object report slots budget store weights) contents status text h = absurd h
printed (Run object memory steps) [] status text h = absurd h
printed (Run object memory steps) (bytes ∷ []) status text h = absurd h
printed (Run object memory steps) (bytes ∷ given ∷ []) status text h = (refl, h)
printed (Run object memory steps) (bytes ∷ given ∷ x ∷ xs) status text h = absurd h
printed (Exec source memory calls) [] status text h = absurd h
printed (Exec source memory calls) (bytes ∷ []) status text h = absurd h
printed (Exec source memory calls) (bytes ∷ given ∷ []) status text h = (refl, h)
printed (Exec source memory calls) (bytes ∷ given ∷ x ∷ xs) status text h = absurd h
printed (Asm input object) contents status text h = absurd h
printed (Dis object) [] status text h = absurd h
printed (Dis object) (bytes ∷ []) status text h = (refl, h)
printed (Dis object) (bytes ∷ x ∷ xs) status text h = absurd h
printed (Lint object) [] status text h = absurd h
printed (Lint object) (bytes ∷ []) status text h = (refl, h)
printed (Lint object) (bytes ∷ x ∷ xs) status text h = absurd h
printed (Check report) [] status text h = absurd h
printed (Check report) (bytes ∷ []) status text h = (refl, h)
printed (Check report) (bytes ∷ x ∷ xs) status text h = absurd h
printed (Gen seed size) contents status text h = absurd h
printed (Contexts object memory schedule) [] status text h = absurd h
printed (Contexts object memory schedule) (bytes ∷ []) status text h = absurd h
printed (Contexts object memory schedule) (bytes ∷ given ∷ []) status text h = absurd h
printed (Contexts object memory schedule) (bytes ∷ given ∷ turns ∷ []) status text h = (refl, h)
printed (Contexts object memory schedule) (bytes ∷ given ∷ turns ∷ x ∷ xs) status text h = absurd h
printed (Peep object output) contents status text h = absurd h
printed (Trace source object memory steps calls line) [] status text h = absurd h
printed (Trace source object memory steps calls line) (source_text ∷ []) status text h = absurd h
printed (Trace source object memory steps calls line) (source_text ∷ bytes ∷ []) status text h = absurd h
printed (Trace source object memory steps calls line) (source_text ∷ bytes ∷ given ∷ []) status text h = (refl, h)
printed (Trace source object memory steps calls line) (source_text ∷ bytes ∷ given ∷ x ∷ xs) status text h = absurd h
printed (Counts source memory output jumps) contents status text h = absurd h

pub decided_answers : DecidedAnswers
decided_answers = record { refused = refused; printed = printed }

pub one_answer : OneAnswer
one_answer = record { made = makes-good; printed = prints-good; refused = refusal-one; shown = prints-one; ended = made-end }
