-- How a command ends, before its text is printed.
use Rattle.std.specs.Prelude.{◌≡◌, ◌⊎◌, ℕ, List, Result, Ok, Err}
use Rattle.nv_outside.specs.Holding.{Holding}
use Rattle.novac_commands.specs.Answers.{IsDone, IsStopped, IsRefused}
use Rattle.novac_words.specs.Command.{Command}
use Rattle.novac_words.specs.declared.refusal.Refusal.{Refusal}
use Rattle.novac_words.specs.declared.reply.Reply.{Reply}
use Rattle.novac_machine.specs.inner.Outcomes.{IsOutcome}
use Rattle.novac_machine.specs.declared.save.Made.{Made}
use Rattle.novac_machine.specs.declared.save.Outputs.TheVariants.{Nothing}
use Rattle.novac_words.specs.declared.status.Status.{Status}
use Rattle.novac_words.specs.declared.status.Status.TheVariants.{WriteFault}

-- a command that isn't refused ends with one of these
abbrev pub IsEnd : Status → Type 0
IsEnd status = IsOutcome status ⊎ (status ≡ WriteFault)

-- a command did all that it is for, or a save failed, or it is refused
abbrev pub HasEnded : Type 0 → Holding → Holding → (List ℕ → Type 0) → (List ℕ → Type 0) → Command → Status → List ℕ → Type 0
HasEnded Tells old new LoadRises SaveRises command status text =
    IsDone Tells old new command status text
    ⊎ ((status ≡ WriteFault) × IsStopped Tells old new SaveRises command text)
    ⊎ IsRefused Tells old new LoadRises command status text

-- a reply as what a command makes that saves no file
abbrev pub IsShown : Result Reply Refusal → Result Made Refusal → Type 0
IsShown (Ok r) (Ok m) = (m.status ≡ r.status) × (m.text ≡ r.text) × (m.outputs ≡ Nothing)
IsShown (Err e) (Err f) = f ≡ e
IsShown _ _ = ⊥
