-- What holds whatever the words are.
use Rattle.std.proofs.Common.{List, Option, Some, None, Result, Ok, Err, IfErr}
use Rattle.nv_outside.specs.Calls.{Call, AsksAtMost}
use Rattle.nv_outside.proofs.Calls.{at_most-none}
use Rattle.novac_words.specs.Command.{Command, IfCommand}
use Rattle.novac_commands.specs.Calling.{calls_of}

-- what holds of every command
pub always : (o : Option Command) (P : Command → Type 0) → ((c : Command) → P c) → IfCommand o P
always None P h = tt
always (Some c) P h = h c

-- what holds of every error
pub any-error : {T E : Type 0} (r : Result T E) (P : E → Type 0) → ((e : E) → P e) → IfErr r P
any-error (Ok v) P h = tt
any-error (Err e) P h = h e

-- where nothing is asked of a store
pub asks-nothing : {S : Type 0} (history : S → List Call → Type 0) (s : S) (o : Option Command) → IfCommand o (λ c. AsksAtMost history s s (calls_of c))
asks-nothing history s None = tt
asks-nothing history s (Some c) = at_most-none history s (calls_of c)
