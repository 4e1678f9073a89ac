-- Within which limits the numbers of a command are, by which name it is called, and which words save files.
use Rattle.std.specs.Prelude.{◌≡◌, ◌≢◌, ◌≤◌, ◌<◌, ◌⊎◌, ℕ, All, IfSome, List, MatchOption, None, Option, Some, String, slice_get, string_bytes, codes, ⊤}
use Rattle.std.specs.Global.{Global}
use Rattle.nova_words.specs.declared.command.Command.{Command}
use Rattle.nova_words.specs.declared.command.Command.TheVariants.{Build, Run, List as ListCommand, Check, Test, Trace, Page, Forms, Format, Asm, Mem, Replay, Serve, Explain, Help, Version}
use Rattle.nova_words.specs.declared.command.Build.{Build as BuildWords}
use Rattle.nova_words.specs.declared.verb.Verb.{Verb}
use Rattle.nova_words.specs.declared.verb.Verb.TheVariants as verb

-- how many steps of code, or calls of the interpreter, words can allow
abbrev pub steps_limit : ℕ
steps_limit = 100000000

-- a search may make so many branches, where that is said
abbrev pub IsBudget : Option ℕ → Type 0
IsBudget budget = IfSome budget (λ n. (1 ≤ n) × (n ≤ 1000000))

-- those of a compilation
pub record AreInLimits (b : BuildWords) : Type 0 where
  pub slots : b.slots ≤ 128
  pub some : 1 ≤ b.budget
  pub budget : b.budget ≤ 1000000
  pub store : b.store ≤ 1048576

-- those of a command
abbrev pub HasLimits : Command → Type 0
HasLimits (Build b) = AreInLimits b
HasLimits (Run r) = (r.steps ≤ steps_limit) × IsBudget r.budget
HasLimits (ListCommand l) = IsBudget l.budget
HasLimits (Page p) = (p.steps ≤ steps_limit) × IsBudget p.budget
HasLimits (Test t) = (t.steps ≤ steps_limit) × IsBudget t.budget
HasLimits (Trace t) = t.steps ≤ steps_limit
HasLimits (Replay r) = (r.steps ≤ steps_limit) × (r.at < 65536)
HasLimits _ = ⊤

-- the store and the steps that it allows are not 0
abbrev pub AllowsSome : Command → Type 0
AllowsSome (Build b) = 1 ≤ b.store
AllowsSome (Run r) = 1 ≤ r.steps
AllowsSome (Page p) = 1 ≤ p.steps
AllowsSome (Test t) = 1 ≤ t.steps
AllowsSome (Trace t) = 1 ≤ t.steps
AllowsSome (Replay r) = 1 ≤ r.steps
AllowsSome _ = ⊤

-- the command may save files
abbrev pub Saves : Command → Type 0
Saves (Build b) = ⊤
Saves (Run r) = ⊤
Saves (Test t) = ⊤
Saves (Page p) = ⊤
Saves (Format f) = ⊤
Saves (Asm a) = ⊤
Saves _ = ⊥

-- the name of a command
abbrev pub name_of : Verb → List ℕ
name_of verb.Build = codes "build"
name_of verb.Run = codes "run"
name_of verb.List = codes "list"
name_of verb.Check = codes "check"
name_of verb.Test = codes "test"
name_of verb.Trace = codes "trace"
name_of verb.Page = codes "page"
name_of verb.Forms = codes "forms"
name_of verb.Format = codes "fmt"
name_of verb.Asm = codes "asm"
name_of verb.Mem = codes "mem"
name_of verb.Replay = codes "replay"
name_of verb.Serve = codes "lsp"
name_of verb.Explain = codes "explain"
name_of verb.Help = codes "help"
name_of verb.Version = codes "version"

-- no command has this name
abbrev pub NamesNone : List ℕ → Type 0
NamesNone word = (verb : Verb) → word ≢ name_of verb

-- the word asks for the help of all commands, whatever follows
abbrev pub AsksHelp : List ℕ → Type 0
AsksHelp word = (word ≡ codes "--help") ⊎ (word ≡ codes "-h")

-- the first word calls this command; an option asks for the help of its command
abbrev pub IsCalled : List ℕ → Command → Type 0
IsCalled word (Build b) = word ≡ codes "build"
IsCalled word (Run r) = word ≡ codes "run"
IsCalled word (ListCommand name) = word ≡ codes "list"
IsCalled word (Check c) = word ≡ codes "check"
IsCalled word (Test t) = word ≡ codes "test"
IsCalled word (Trace t) = word ≡ codes "trace"
IsCalled word (Page p) = word ≡ codes "page"
IsCalled word (Forms f) = word ≡ codes "forms"
IsCalled word (Format f) = word ≡ codes "fmt"
IsCalled word Serve = word ≡ codes "lsp"
IsCalled word (Asm a) = word ≡ codes "asm"
IsCalled word (Mem name) = word ≡ codes "mem"
IsCalled word (Replay r) = word ≡ codes "replay"
IsCalled word (Explain words) = word ≡ codes "explain"
IsCalled word (Help None) = AsksHelp word ⊎ (word ≡ codes "help")
IsCalled word (Help (Some verb)) = (word ≡ name_of verb) ⊎ (word ≡ codes "help")
IsCalled word Version = (word ≡ codes "version") ⊎ (word ≡ codes "--version")

-- the command is help
abbrev pub IsHelp : Command → Type 0
IsHelp (Help verb) = ⊤
IsHelp _ = ⊥

-- no word is the option that asks for help
abbrev pub HaveNoHelp : List (String Global) → Type 0
HaveNoHelp words = All (λ word. (string_bytes word ≢ codes "--help") × (string_bytes word ≢ codes "-h")) words

-- the word is the name of a command that may save files
abbrev pub NamesSaver : List ℕ → Type 0
NamesSaver word = (word ≡ codes "build") ⊎ (word ≡ codes "run") ⊎ (word ≡ codes "test") ⊎ (word ≡ codes "page") ⊎ (word ≡ codes "fmt") ⊎ (word ≡ codes "asm")

-- this holds of the first of the words, and there is one
abbrev pub FirstIs : List (String Global) → (List ℕ → Type 0) → Type 0
FirstIs words P = MatchOption (slice_get words 0) ⊥ (λ word. P (string_bytes word))

-- the first of the words is the name of such a command
abbrev pub MaySave : List (String Global) → Type 0
MaySave words = FirstIs words NamesSaver
