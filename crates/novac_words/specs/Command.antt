-- Command lines.
use Rattle.std.specs.Prelude.{ℕ, length, List, [], ◌∷◌, ◌++◌, Option, Some, None, Vec, String, map, drop, string_bytes, codes, decimal, Bool, true, not, ◌&&◌, nat_le, if◌then◌else◌, Contains, ⊤, option_map}
use Rattle.std.specs.Global.{Global}
use Rattle.std.specs.Str.{bytes_eq}
use Rattle.std.specs.Str.Parse.{digits_value}
use Rattle.novac_words.specs.Limits.{slots_limit, budget_default, budget_limit, store_default, store_limit}

-- a command with what its words name
pub data Command : Type 0 where
  Compile : (source object report : List ℕ) (slots budget store : ℕ) (weights : Option (List ℕ)) → Command
  Run : (object memory : List ℕ) (steps : ℕ) → Command
  Exec : (source memory : List ℕ) (calls : ℕ) → Command
  Asm : (text object : List ℕ) → Command
  Dis : (object : List ℕ) → Command
  Lint : (object : List ℕ) → Command
  Check : (report : List ℕ) → Command
  Gen : (seed size : ℕ) → Command
  Contexts : (object memory schedule : List ℕ) → Command
  Peep : (object output : List ℕ) → Command
  Trace : (source object memory : List ℕ) (steps calls : ℕ) (line : Option ℕ) → Command
  Counts : (source memory output : List ℕ) (jumps : ℕ) → Command

-- the texts of words
abbrev pub texts : List (String Global) → List (List ℕ)
texts words = map string_bytes words

abbrev pub texts_of : Vec (String Global) Global → List (List ℕ)
texts_of words = texts words.items

-- a file name isn't empty
abbrev pub is_name : List ℕ → Bool
is_name a = not (bytes_eq a [])

-- two file names, which differ
abbrev pub are_names : List ℕ → List ℕ → Bool
are_names a b = is_name a && is_name b && not (bytes_eq a b)

-- three file names, which differ
abbrev pub are_three_names : List ℕ → List ℕ → List ℕ → Bool
are_three_names a b c = are_names a b && are_names a c && are_names b c

-- the number of a range that a word spells after a key
abbrev pub option_of : List ℕ → ℕ → ℕ → List ℕ → Option ℕ
option_of key least most word =
    let n = digits_value 10 (drop (length key) word) in
    if bytes_eq word (key ++ decimal n) && nat_le least n && nat_le n most then Some n else None

-- the number of steps, or of calls, that a word is for
abbrev pub steps_of : List ℕ → Option ℕ
steps_of word = option_of (codes "steps=") 1 100000000 word

-- the number of a range that a word spells
abbrev pub number_in : ℕ → ℕ → List ℕ → Option ℕ
number_in least most word =
    let n = digits_value 10 word in
    if bytes_eq word (decimal n) && nat_le least n && nat_le n most then Some n else None

-- ---- the options of `compile`

-- the number that the first word spells after a key, and the words after it; where it spells none, this other number, and all
-- words
abbrev pub taken_or : List (List ℕ) → ℕ → List (List ℕ) → Option ℕ → ℕ × List (List ℕ)
taken_or words other behind (Some n) = (n, behind)
taken_or words other behind None = (other, words)

abbrev pub taken : List ℕ → ℕ → ℕ → ℕ → List (List ℕ) → ℕ × List (List ℕ)
taken key least most other [] = (other, [])
taken key least most other (word ∷ words) = taken_or (word ∷ words) other words (option_of key least most word)

-- the slots of code, the branches of the search for its banks, its instructions, and the file of the weights of labels
pub record Options : Type 0 where
  pub slots : ℕ
  pub budget : ℕ
  pub store : ℕ
  pub weights : Option (List ℕ)

-- the file name that a word has after a key
abbrev pub name_after : List ℕ → List ℕ → Option (List ℕ)
name_after key word =
    let name = drop (length key) word in
    if bytes_eq word (key ++ name) && is_name name then Some name else None

-- [weights=FILE], with no word after it
abbrev pub weights_of : List (List ℕ) → Option (Option (List ℕ))
weights_of [] = Some None
weights_of (word ∷ []) = option_map Some (name_after (codes "weights=") word)
weights_of _ = None

abbrev pub options_with : ℕ → ℕ → ℕ → List (List ℕ) → Option Options
options_with slots budget store words =
    option_map (λ weights. record { slots = slots; budget = budget; store = store; weights = weights }) (weights_of words)

-- [slots=N] [budget=N] [store=N] [weights=FILE], in this order
abbrev pub options_of : List (List ℕ) → Option Options
options_of words =
    let slots = taken (codes "slots=") 0 slots_limit slots_limit words in
    let budget = taken (codes "budget=") 1 budget_limit budget_default slots.1 in
    let store = taken (codes "store=") 1 store_limit store_default budget.1 in
    options_with slots.0 budget.0 store.0 store.1

-- ---- commands

-- the command of a seed and a size
abbrev pub gen_with : Option ℕ → Option ℕ → Option Command
gen_with (Some seed) (Some size) = Some (Gen seed size)
gen_with _ _ = None

-- gen SEED SIZE: a seed of 32 bits, and a size of 1 to 500
abbrev pub gen_of : List ℕ → List ℕ → Option Command
gen_of seed size = gen_with (number_in 0 4294967295 seed) (number_in 1 500 size)

-- dis OBJ, lint OBJ, check REPORT
abbrev pub command_of_two : List ℕ → List ℕ → Option Command
command_of_two verb name =
    if bytes_eq verb (codes "dis") && is_name name then Some (Dis name)
    else if bytes_eq verb (codes "lint") && is_name name then Some (Lint name)
    else if bytes_eq verb (codes "check") && is_name name then Some (Check name)
    else None

-- gen SEED SIZE, asm TEXT OBJ, peep OBJ OUT
abbrev pub command_of_three : List ℕ → List ℕ → List ℕ → Option Command
command_of_three verb input object =
    if bytes_eq verb (codes "gen") then gen_of input object
    else if bytes_eq verb (codes "asm") && are_names input object then Some (Asm input object)
    else if bytes_eq verb (codes "peep") && are_names input object then Some (Peep input object)
    else None

-- run OBJ MEM steps=N, exec SRC MEM steps=N, contexts OBJ MEM SCHEDULE, with no word after them
abbrev pub command_of_four : List ℕ → List ℕ → List ℕ → List ℕ → List (List ℕ) → Option Command
command_of_four verb first second third (word ∷ words) = None
command_of_four verb first second third [] =
    if bytes_eq verb (codes "run") && are_names first second then option_map (Run first second) (steps_of third)
    else if bytes_eq verb (codes "exec") && are_names first second then option_map (Exec first second) (steps_of third)
    else if bytes_eq verb (codes "contexts") && are_three_names first second third then Some (Contexts first second third)
    else None

-- a fourth file, where there is one, has another name than these three
abbrev pub is_another : List ℕ → List ℕ → List ℕ → Option (List ℕ) → Bool
is_another a b c None = true
is_another a b c (Some d) = are_names a d && are_names b d && are_names c d

-- compile SRC OBJ REPORT, and options
abbrev pub compile_with : List ℕ → List ℕ → List ℕ → Option Options → Option Command
compile_with source object report None = None
compile_with source object report (Some o) =
    if is_another source object report o.weights then Some (Compile source object report o.slots o.budget o.store o.weights)
    else None

abbrev pub compile_of : List ℕ → List ℕ → List ℕ → List (List ℕ) → Option Command
compile_of source object report options =
    if are_three_names source object report then compile_with source object report (options_of options)
    else None

-- counts SRC MEM FILE steps=N, with no word after it
abbrev pub counts_of : List ℕ → List ℕ → List ℕ → List (List ℕ) → Option Command
counts_of source memory output (word ∷ []) =
    if are_three_names source memory output then option_map (Counts source memory output) (steps_of word)
    else None
counts_of source memory output _ = None

-- trace SRC OBJ MEM steps=N calls=N [line=N]
abbrev pub trace_calls : List ℕ → Option ℕ
trace_calls word = option_of (codes "calls=") 1 100000000 word

abbrev pub trace_line : List (List ℕ) → Option (Option ℕ)
trace_line [] = Some None
trace_line (word ∷ []) = option_map Some (option_of (codes "line=") 1 1000000 word)
trace_line _ = None

abbrev pub trace_with : List ℕ → List ℕ → List ℕ → Option ℕ → Option ℕ → Option (Option ℕ) → Option Command
trace_with source object memory (Some steps) (Some calls) (Some line) = Some (Trace source object memory steps calls line)
trace_with source object memory _ _ _ = None

abbrev pub trace_of : List ℕ → List ℕ → List ℕ → List (List ℕ) → Option Command
trace_of source object memory (steps ∷ calls ∷ words) =
    if are_three_names source object memory then trace_with source object memory (steps_of steps) (trace_calls calls) (trace_line words) else None
trace_of source object memory _ = None

abbrev pub command_of_more : List ℕ → List ℕ → List ℕ → List ℕ → List (List ℕ) → Option Command
command_of_more verb a b c words =
    if bytes_eq verb (codes "compile") then compile_of a b c words
    else if bytes_eq verb (codes "counts") then counts_of a b c words
    else if bytes_eq verb (codes "trace") then trace_of a b c words else command_of_four verb a b c words

-- the command of a list of words
abbrev pub command_of : List (List ℕ) → Option Command
command_of (verb ∷ a ∷ []) = command_of_two verb a
command_of (verb ∷ a ∷ b ∷ []) = command_of_three verb a b
command_of (verb ∷ a ∷ b ∷ c ∷ words) = command_of_more verb a b c words
command_of _ = None

-- the names of the files that a command saves, in this order
abbrev pub outputs_of : Command → List (List ℕ)
outputs_of (Compile source object report slots budget store weights) = object ∷ report ∷ []
outputs_of (Run object memory steps) = []
outputs_of (Exec source memory calls) = []
outputs_of (Asm text object) = object ∷ []
outputs_of (Dis object) = []
outputs_of (Lint object) = []
outputs_of (Check report) = []
outputs_of (Gen seed size) = []
outputs_of (Contexts object memory schedule) = []
outputs_of (Peep object output) = output ∷ []
outputs_of (Trace source object memory steps calls line) = []
outputs_of (Counts source memory output jumps) = output ∷ []

-- a fact about one of these files
abbrev pub SomeFile : List (List ℕ) → (List ℕ → Type 0) → Type 0
SomeFile names P = (name : List ℕ) × Contains names name × P name

-- a fact about the command, where there is one
abbrev pub IfCommand : Option Command → (Command → Type 0) → Type 0
IfCommand (Some command) P = P command
IfCommand None P = ⊤

-- a fact about what `compile` is called with, where the command is that one
abbrev pub IfCompile : Option Command → (List ℕ → List ℕ → List ℕ → ℕ → ℕ → ℕ → Option (List ℕ) → Type 0) → Type 0
IfCompile (Some (Compile source object report slots budget store weights)) P = P source object report slots budget store weights
IfCompile _ P = ⊤

-- a fact about the seed and the size of `gen`, where the command is that one
abbrev pub IfGen : Option Command → (ℕ → ℕ → Type 0) → Type 0
IfGen (Some (Gen seed size)) P = P seed size
IfGen _ P = ⊤

-- there is a command, of which this holds
abbrev pub ForCommand : Option Command → (Command → Type 0) → Type 0
ForCommand (Some command) P = P command
ForCommand None P = ⊥

-- a fact about the source and the object of `trace`, where the command is that one
abbrev pub IfTrace : Option Command → (List ℕ → List ℕ → Type 0) → Type 0
IfTrace (Some (Trace source object memory steps calls line)) P = P source object
IfTrace _ P = ⊤
