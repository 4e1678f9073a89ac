-- Commands as the code has them.
use Rattle.std.specs.Prelude.{◌≤◌, ℕ, List, Option, option_map, ⊤}
use Rattle.std.specs.Borrow.{Bor}
use Rattle.novac_words.specs.Command.{Command, Compile, Run, Exec, Asm, Dis, Lint, Check, Gen, Contexts, Peep, Trace, Counts, Options}
use Rattle.novac_words.specs.declared.command.Command.{Command as Spoken}
use Rattle.novac_words.specs.declared.command.Command.TheVariants as spoken
use Rattle.novac_words.specs.declared.command.Options.{Options as Chosen}

-- a name without where it lies
abbrev pub name_as : Option (Bor (List ℕ)) → Option (List ℕ)
name_as weights = option_map (λ name. name.now) weights

-- a command without where its names lie
abbrev pub command_as : Spoken → Command
command_as (spoken.Compile source object report options weights) = Compile source.now object.now report.now options.slots options.budget options.store (name_as weights)
command_as (spoken.Run object memory steps) = Run object.now memory.now steps
command_as (spoken.Exec source memory calls) = Exec source.now memory.now calls
command_as (spoken.Asm text object) = Asm text.now object.now
command_as (spoken.Dis object) = Dis object.now
command_as (spoken.Lint object) = Lint object.now
command_as (spoken.Check report) = Check report.now
command_as (spoken.Gen seed size) = Gen seed size
command_as (spoken.Contexts object memory schedule) = Contexts object.now memory.now schedule.now
command_as (spoken.Peep object output) = Peep object.now output.now
command_as (spoken.Trace source object memory t) = Trace source.now object.now memory.now t.steps t.calls t.line
command_as (spoken.Counts source memory output jumps) = Counts source.now memory.now output.now jumps

-- the numbers of a compilation, and the file of its weights
abbrev pub options_as : Chosen → Option (Bor (List ℕ)) → Options
options_as o weights = record { slots = o.slots; budget = o.budget; store = o.store; weights = name_as weights }

-- they are within their limits
pub record AreInLimits (options : Chosen) : Type 0 where
  pub slots : options.slots ≤ 128
  pub some : 1 ≤ options.budget
  pub budget : options.budget ≤ 1000000
  pub store : options.store ≤ 1048576

-- the numbers of a command are
abbrev pub HasLimits : Spoken → Type 0
HasLimits (spoken.Compile source object report options weights) = AreInLimits options
HasLimits (spoken.Run object memory steps) = steps ≤ 100000000
HasLimits (spoken.Trace source object memory t) = t.steps ≤ 100000000
HasLimits (spoken.Counts source memory output jumps) = jumps ≤ 100000000
HasLimits (spoken.Gen seed size) = (1 ≤ size) × (size ≤ 500)
HasLimits _ = ⊤
