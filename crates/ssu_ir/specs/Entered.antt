-- Which labels a run enters, and how often.
use Rattle.std.specs.Prelude.{◌≡◌, ℕ, zero, suc, ◌+◌, ◌<◌, List, map, Option, Some, None, slice_get, length, nat_eq, if◌then◌else◌}
use Rattle.nv_base.specs.declared.outcome.Outcome.TheVariants as outcome
use Rattle.nv_base.specs.Memories.{Memories, fetched, stored}
use Rattle.nv_base.specs.Meanings.{FullOutcome}
use Rattle.nv_base.specs.Words.{Env, word, una_word, bin_word, compares, assigned, assigned_all}
use Rattle.nv_base.specs.World.{World, begun, over, ended, wrote}
use Rattle.ssu_ir.specs.Tree.{Step, Lit, Una, Bin, Clone, Read, Write, Last, Jump, Halt, Tree, Do, If, End, Label}
use Rattle.ssu_ir.specs.Meaning.{Next, assigned_each, blank}

-- how a run leaves a label: by a jump to a label with these words, or with this outcome
pub data Exit : Type 0 where
  JumpsTo : (l : ℕ) (ws : List ℕ) (w : World) → Exit
  EndsWith : (f : FullOutcome) → Exit

-- the outcome, where this is what a jump does
abbrev pub outcome_of : Next → Exit → FullOutcome
outcome_of next (JumpsTo l ws w) = next l ws w
outcome_of next (EndsWith f) = f

abbrev pub exit_after_read : Option (List ℕ) → FullOutcome → (List ℕ → Exit) → Exit
exit_after_read (Some ws) bad go = go ws
exit_after_read None bad go = EndsWith bad

abbrev pub exit_after_write : Option Memories → FullOutcome → (Memories → Exit) → Exit
exit_after_write (Some p) bad go = go p
exit_after_write None bad go = EndsWith bad

-- one step, and then `go`
abbrev pub step_exit : Step → (Env → World → Exit) → Env → World → Exit
step_exit (Lit x v) go env w = go (assigned env x (word v)) w
step_exit (Una x op y) go env w = go (assigned env x (una_word op (env y))) w
step_exit (Bin x op y z) go env w = go (assigned env x (bin_word op (env y) (env z))) w
step_exit (Clone xs y) go env w = go (assigned_each env xs (env y)) w
step_exit (Read m xs y) go env w = exit_after_read (fetched m (env y) (length xs) w.packet) (over (outcome.Fault m (env y)) w) (λ ws. go (assigned_all env xs ws) w)
step_exit (Write m y xs) go env w = exit_after_write (stored m (env y) (map env xs) w.packet) (over (outcome.Fault m (env y)) w) (λ p. go env (wrote m (env y) (map env xs) p w))

abbrev pub last_exit : Last → Env → World → Exit
last_exit (Jump l xs) env w = JumpsTo l (map env xs) w
last_exit (Halt e xs) env w = EndsWith (over (ended e (map env xs)) w)

-- how a run leaves a tree under an assignment of words to variables
abbrev pub tree_exit : Tree → Env → World → Exit
tree_exit (Do s t) env w = step_exit s (tree_exit t) env w
tree_exit (If c x y t u) env w = if compares c (env x) (env y) then tree_exit t env w else tree_exit u env w
tree_exit (End l) env w = last_exit l env w

-- how a run leaves a label that it entered with these words
abbrev pub label_exit : Option Label → List ℕ → World → Exit
label_exit (Some l) ws w = tree_exit l.body (assigned_all blank l.params ws) w
label_exit None ws w = EndsWith (over outcome.Going w)

-- 1 where the label is the k-th one, else 0
abbrev pub is_entered : ℕ → ℕ → ℕ
is_entered l k = if nat_eq l k then 1 else 0

-- how often label k is entered with n jumps by a run that leaves a label so; the jump that finds none left enters nothing
abbrev pub entered_behind : List Label → ℕ → Exit → ℕ → ℕ
entered_behind labels zero o k = 0
entered_behind labels (suc n) (JumpsTo l ws w) k = is_entered l k + entered_behind labels n (label_exit (slice_get labels l) ws w) k
entered_behind labels (suc n) (EndsWith f) k = 0

-- how often the run on these words and memories has entered label k with n jumps; the start is an entry of label 0
abbrev pub entered : List Label → List ℕ → Memories → ℕ → ℕ → ℕ
entered labels args p n k = is_entered 0 k + entered_behind labels n (label_exit (slice_get labels 0) args (begun p)) k

-- for each label the number of its entries with n jumps
abbrev pub AreEntries : List ℕ → List Label → List ℕ → Memories → ℕ → Type 0
AreEntries counts labels args p n = (length counts ≡ length labels) × ((k : ℕ) → k < length labels → slice_get counts k ≡ Some (entered labels args p n k))
