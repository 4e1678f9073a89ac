-- Which value is given an option, and which number that is.
use Rattle.std.specs.Prelude.{◌≡◌, ◌≢◌, ◌⊎◌, ◌++◌, ◌∷◌, ℕ, All, List, MatchOption, Option, Some, codes, decimal, ⊤}
use Rattle.nova_words.specs.declared.command.Command.{Command}
use Rattle.nova_words.specs.declared.command.Command.TheVariants.{Build, Run, List as ListCommand, Page, Replay, Test, Trace}
use Rattle.nova_words.specs.declared.parts.Given.{Given}
use Rattle.nova_words.specs.declared.parts.Parts.{Parts}
use Rattle.nova_words.specs.declared.setting.Setting.{Setting}
use Rattle.nova_words.specs.declared.setting.Setting.TheVariants.{Slots, Budget, Store, Steps, Line, At, Length, Limit, Until as UntilSetting, Help}
use Rattle.nova_words.specs.declared.command.Until.{Until}
use Rattle.nova_words.specs.declared.command.Until.TheVariants.{Write, Raise, Line as LineOf}

abbrev pub IsNotGiven : List Given → Setting → Type 0
IsNotGiven given setting = All (λ g. g.setting ≢ setting) given

-- neither a value so far nor the next is of the option for help
pub record AsksNone (parts : Parts) : Type 0 where
  pub given : IsNotGiven parts.given.items Help
  pub pending : parts.pending ≢ Some Help

-- the value is given the option, which no later one is
abbrev pub IsLastValue : List Given → Setting → List ℕ → Type 0
IsLastValue given setting value =
    (front : List Given) × (g : Given) × (rest : List Given)
    × (given ≡ front ++ g ∷ rest) × (g.setting ≡ setting) × (g.value.now ≡ value) × IsNotGiven rest setting

-- the option's last value spells the number; without the option it is the usual one
abbrev pub IsNumberOf : List Given → Setting → ℕ → ℕ → Type 0
IsNumberOf given setting usual n = IsLastValue given setting (decimal n) ⊎ (IsNotGiven given setting × (n ≡ usual))

-- the option's last value spells the number; without the option there is none
abbrev pub IsNumberIfGiven : List Given → Setting → Option ℕ → Type 0
IsNumberIfGiven given setting number = MatchOption number (IsNotGiven given setting) (λ n. IsLastValue given setting (decimal n))

-- the spelling of what ends a trace
abbrev pub until_text : Until → List ℕ
until_text Write = codes "write"
until_text Raise = codes "raise"
until_text (LineOf n) = decimal n

-- the option's last value spells what ends a trace; without the option there is nothing
abbrev pub IsUntilIfGiven : List Given → Option Until → Type 0
IsUntilIfGiven given until = MatchOption until (IsNotGiven given UntilSetting) (λ u. IsLastValue given UntilSetting (until_text u))

-- each number of the command is that of its option
abbrev pub HasNumbers : List Given → Command → Type 0
HasNumbers given (Build b) = IsNumberOf given Slots 128 b.slots × IsNumberOf given Budget 2000 b.budget × IsNumberOf given Store 2048 b.store
HasNumbers given (Run r) = IsNumberOf given Steps 1000000 r.steps × IsNumberIfGiven given Budget r.budget × IsUntilIfGiven given r.until
HasNumbers given (ListCommand l) = IsNumberIfGiven given Budget l.budget
HasNumbers given (Page p) = IsNumberOf given Steps 1000000 p.steps × IsNumberIfGiven given Budget p.budget
HasNumbers given (Trace t) = IsNumberOf given Steps 1000000 t.steps × IsNumberIfGiven given Line t.line
HasNumbers given (Replay r) = IsNumberOf given At 0 r.at × IsNumberOf given Steps 1000000 r.steps × IsNumberIfGiven given Length r.length × IsNumberIfGiven given Limit r.limit
HasNumbers given (Test t) = IsNumberOf given Steps 1000000 t.steps × IsNumberIfGiven given Budget t.budget
HasNumbers given _ = ⊤
