-- What trees and labels mean: by recursion on the tree and on the number of jumps, over words.
use Rattle.std.specs.Prelude.{ℕ, zero, suc, List, map, Option, Some, None, slice_get, length, if◌then◌else◌}
use Rattle.nv_base.specs.declared.outcome.Outcome.TheVariants as outcome
use Rattle.nv_base.specs.Memories.{Memories}
use Rattle.nv_base.specs.Meanings.{FullOutcome, Meaning}
use Rattle.nv_base.specs.Sets.{is_in}
use Rattle.nv_base.specs.Words.{Env, word, una_word, bin_word, compares, assigned, assigned_all}
use Rattle.nv_base.specs.World.{World, begun, over, ended, read_words, write_words}
use Rattle.ssu_ir.specs.Tree.{Step, Lit, Una, Bin, Clone, Read, Write, Last, Jump, Halt, Tree, Do, If, End, Label}

-- what a jump to a label with these words does
abbrev pub Next : Type 0
Next = ℕ → List ℕ → World → FullOutcome

-- the same, but each of these variables has the word w
abbrev pub assigned_each : Env → List ℕ → ℕ → Env
assigned_each env xs w = λ y. if is_in y xs then w else env y

-- what one step does, and then `go`
abbrev pub step_does : Step → (Env → World → FullOutcome) → Env → World → FullOutcome
step_does (Lit x v) go env w = go (assigned env x (word v)) w
step_does (Una x op y) go env w = go (assigned env x (una_word op (env y))) w
step_does (Bin x op y z) go env w = go (assigned env x (bin_word op (env y) (env z))) w
step_does (Clone xs y) go env w = go (assigned_each env xs (env y)) w
step_does (Read m xs y) go env w = read_words m (env y) (length xs) w (λ ws. go (assigned_all env xs ws) w)
step_does (Write m y xs) go env w = write_words m (env y) (map env xs) w (λ v. go env v)

abbrev pub last_does : Next → Last → Env → World → FullOutcome
last_does next (Jump l xs) env w = next l (map env xs) w
last_does next (Halt e xs) env w = over (ended e (map env xs)) w

-- what a tree does under an assignment of words to variables
abbrev pub does : Next → Tree → Env → World → FullOutcome
does next (Do s t) env w = step_does s (does next t) env w
does next (If c x y t u) env w = if compares c (env x) (env y) then does next t env w else does next u env w
does next (End l) env w = last_does next l env w

-- the assignment in which every variable has the word 0
abbrev pub blank : Env
blank = λ x. 0

-- at a label, whose parameters have these words; at none, which no jump of a single-use form names, the run is going for ever
abbrev pub enter : Next → Option Label → List ℕ → World → FullOutcome
enter next (Some l) ws w = does next l.body (assigned_all blank l.params ws) w
enter next None ws w = over outcome.Going w

-- at a label, with n jumps left; where none is left the run is going
abbrev pub run : List Label → ℕ → Next
run labels zero l ws w = over outcome.Going w
run labels (suc n) l ws w = enter (run labels n) (slice_get labels l) ws w

-- the meaning of labels on these words and memories: the full outcome for each number of jumps; the start at label 0 takes none
abbrev pub ssu_meaning : List Label → List ℕ → Memories → Meaning
ssu_meaning labels args p n = enter (run labels n) (slice_get labels 0) args (begun p)

-- how many words the run starts with
abbrev pub params_of : Option Label → ℕ
params_of (Some l) = length l.params
params_of None = 0

abbrev pub ssu_params : List Label → ℕ
ssu_params labels = params_of (slice_get labels 0)
