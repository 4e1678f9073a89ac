-- What the program ends with.
use Rattle.std.specs.Prelude.{◌≡◌, ℕ, List, [], String, Vec, Result, Ok, Err, drop}
use Rattle.std.specs.Global.{Global}
use Rattle.std.specs.Process.{exit_status}
use Rattle.std.specs.declared.io.Error.{Error}
use Rattle.std.specs.declared.process.ExitCode.{ExitCode}
use Rattle.novac_words.specs.Command.{texts_of}
use Rattle.novac_words.specs.Status.{status_number}
use Rattle.novac_words.specs.declared.status.Status.{Status}

-- the words after the program's name, or none where they aren't all texts
abbrev pub words_given : Result (Vec (String Global) Global) Error → List (List ℕ)
words_given (Ok all) = drop 1 (texts_of all)
words_given (Err e) = []

-- the number is that of a status of which this holds
abbrev pub Exits : ExitCode → (Status → Type 0) → Type 0
Exits code P = (status : Status) × (exit_status code ≡ status_number status) × P status
