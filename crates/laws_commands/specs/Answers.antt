-- What the contents of a command's inputs decide, and how much of its answer that is.
use Rattle.std.specs.Prelude.{◌≡◌, ℕ, List, []}
use Rattle.novac_words.specs.Command.{Command}
use Rattle.novac_words.specs.declared.refusal.Refusal.{Refusal}
use Rattle.novac_words.specs.declared.status.Status.{Status}
use Rattle.novac_machine.specs.Saving.{File}
use Rattle.novac_commands.specs.Answers.{CanEnd, CanMake, Makes, MustRefuse, Prints, Refuses}

-- what contents must be refused for, they are refused for; what they print, a command makes of them without a file
pub record DecidedAnswers : Type 0 where
  pub refused : (command : Command) (contents : List (List ℕ)) (e : Refusal) → MustRefuse command contents e → Refuses command contents e
  pub printed : (command : Command) (contents : List (List ℕ)) (status : Status) (text : List ℕ) → Prints command contents status text → Makes command contents status [] text

-- Contents have one answer. What a command prints of them it doesn't refuse, and what it makes isn't what it must refuse; where it must refuse them
-- there is one cause, and what is printed is one status and one text. Where contents allow a command to make its output, it ends as `CanEnd` says.
pub record OneAnswer : Type 0 where
  pub made : (command : Command) (contents : List (List ℕ)) (status : Status) (files : List File) (text : List ℕ) (e : Refusal) → Makes command contents status files text → MustRefuse command contents e → ⊥
  pub printed : (command : Command) (contents : List (List ℕ)) (status : Status) (text : List ℕ) (e : Refusal) → Prints command contents status text → Refuses command contents e → ⊥
  pub refused : (command : Command) (contents : List (List ℕ)) (e f : Refusal) → Refuses command contents e → MustRefuse command contents f → e ≡ f
  pub shown : (command : Command) (contents : List (List ℕ)) (status status' : Status) (files : List File) (text text' : List ℕ) → Makes command contents status files text → Prints command contents status' text' → (status ≡ status') × (text ≡ text')
  pub ended : (command : Command) (contents : List (List ℕ)) (status : Status) (files : List File) (text : List ℕ) → Makes command contents status files text → CanMake command contents → CanEnd command contents status
