-- What trees and flows mean: by recursion on the tree and on the number of jumps, over words.
use Rattle.std.specs.Prelude.{ℕ, zero, suc, List, Option, Some, None, slice_get, length, if◌then◌else◌}
use Rattle.nv_base.specs.declared.outcome.Outcome.TheVariants as outcome
use Rattle.nv_base.specs.Memories.{Memories}
use Rattle.nv_base.specs.Meanings.{FullOutcome, Meaning}
use Rattle.nv_base.specs.Words.{Env, assigned, assigned_all, atom_word, atom_words, prim_word, compares}
use Rattle.nv_base.specs.World.{World, begun, over, ended, read_words, write_words}
use Rattle.flow_ir.specs.Tree.{Tree, Let, Read, Write, If, Jump, Halt, Label}

-- what a jump to a label with these words does
abbrev pub Next : Type 0
Next = ℕ → List ℕ → World → FullOutcome

-- what a tree does under an assignment of words to variables
abbrev pub does : Next → Tree → Env → World → FullOutcome
does next (Let x a t) env w = does next t (assigned env x (prim_word env a)) w
does next (Read m xs a t) env w = read_words m (atom_word env a) (length xs) w (λ ws. does next t (assigned_all env xs ws) w)
does next (Write m a bs t) env w = write_words m (atom_word env a) (atom_words env bs) w (λ v. does next t env v)
does next (If c a b t u) env w = if compares c (atom_word env a) (atom_word env b) then does next t env w else does next u env w
does next (Jump l bs) env w = next l (atom_words env bs) w
does next (Halt e bs) env w = over (ended e (atom_words env bs)) w

-- the assignment in which every variable has the word 0
abbrev pub blank : Env
blank = λ x. 0

-- at a label, whose parameters have these words; at none, which no formed flow names, the run is going for ever
abbrev pub enter : Next → Option Label → List ℕ → World → FullOutcome
enter next (Some l) ws w = does next l.body (assigned_all blank l.params ws) w
enter next None ws w = over outcome.Going w

-- at a label, with n jumps left; where none is left the run is going
abbrev pub run : List Label → ℕ → Next
run labels zero l ws w = over outcome.Going w
run labels (suc n) l ws w = enter (run labels n) (slice_get labels l) ws w

-- the meaning of a flow on these words and memories: its full outcome for each number of jumps; the start at label 0 takes none
abbrev pub flow_meaning : List Label → List ℕ → Memories → Meaning
flow_meaning labels args p n = enter (run labels n) (slice_get labels 0) args (begun p)

-- how many words the run starts with
abbrev pub params_of : Option Label → ℕ
params_of (Some l) = length l.params
params_of None = 0

abbrev pub flow_params : List Label → ℕ
flow_params labels = params_of (slice_get labels 0)
