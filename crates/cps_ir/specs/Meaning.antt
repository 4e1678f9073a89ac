-- What terms and programs mean: by recursion on the term and on the number of jumps, calls and returns, over words.
use Rattle.std.specs.Prelude.{ℕ, zero, suc, nat_eq, List, [], ◌∷◌, Option, Some, None, slice_get, length, if◌then◌else◌}
use Rattle.nv_base.specs.declared.outcome.Outcome.TheVariants as outcome
use Rattle.nv_base.specs.Memories.{Memories}
use Rattle.nv_base.specs.Meanings.{FullOutcome, Meaning}
use Rattle.nv_base.specs.Words.{Env, assigned, assigned_all, atom_word, atom_words, prim_word, compares}
use Rattle.nv_base.specs.World.{World, begun, over, ended, read_words, write_words}
use Rattle.cps_ir.specs.Term.{Handler, Term, Let, Read, Write, If, Fix, Call, Return, Throw, Jump, Halt, Labels, none, label, Fun}

-- the label of the nearest handler of an exception
abbrev pub handler_of : ℕ → List Handler → Option ℕ
handler_of e [] = None
handler_of e (h ∷ hs) = if nat_eq h.0 e then Some h.1 else handler_of e hs

-- what a label does with its parameters
pub record Body : Type 0 where
  pub params : List ℕ
  pub term : Term

-- the label of a number among these
abbrev pub label_in : ℕ → Labels → Option Body
label_in l none = None
label_in l (label k xs t ls) = if nat_eq k l then Some (record { params = xs; term = t }) else label_in l ls

-- the labels that a place may name, the nearest first, each group with the assignment where it was made
pub data Scope : Type 0 where
  Top : Scope
  Bound : (ls : Labels) (env : Env) (outer : Scope) → Scope

-- the calls that wait, the nearest first: the label for the words, the handlers, and the scope of these labels
pub data Frames : Type 0 where
  Bottom : Frames
  Frame : (l : ℕ) (hs : List Handler) (scope : Scope) (outer : Frames) → Frames

-- what takes one of the jumps of a run: going on at a label, or in a function
pub data Task : Type 0 where
  ToLabel : (l : ℕ) (ws : List ℕ) (scope : Scope) (frames : Frames) → Task
  ToFun : (f : ℕ) (ws : List ℕ) (frames : Frames) → Task

abbrev pub Next : Type 0
Next = Task → World → FullOutcome

-- a call waits with its label and handlers; one without a label leaves it to its caller's
abbrev pub waiting : Option ℕ → List Handler → Scope → Frames → Frames
waiting (Some l) hs sc fr = Frame l hs sc fr
waiting None hs sc fr = fr

-- words go to the label of the nearest call that waits
abbrev pub returned : Next → List ℕ → Frames → World → FullOutcome
returned next ws Bottom w = over (outcome.Ended ws) w
returned next ws (Frame l hs sc fr) w = next (ToLabel l ws sc fr) w

abbrev pub or_label : Next → Option ℕ → List ℕ → Scope → Frames → World → FullOutcome → FullOutcome
or_label next (Some l) ws sc fr w other = next (ToLabel l ws sc fr) w
or_label next None ws sc fr w other = other

-- an exception goes to its nearest handler among the calls that wait
abbrev pub thrown : Next → ℕ → List ℕ → Frames → World → FullOutcome
thrown next e ws Bottom w = over (outcome.Raised e ws) w
thrown next e ws (Frame l hs sc fr) w = or_label next (handler_of e hs) ws sc fr w (thrown next e ws fr w)

-- what a term does under an assignment, where these labels are in scope and these calls wait
abbrev pub does : Next → Term → Env → Scope → Frames → World → FullOutcome
does next (Let x a t) env sc fr w = does next t (assigned env x (prim_word env a)) sc fr w
does next (Read m xs a t) env sc fr w = read_words m (atom_word env a) (length xs) w (λ ws. does next t (assigned_all env xs ws) sc fr w)
does next (Write m a bs t) env sc fr w = write_words m (atom_word env a) (atom_words env bs) w (λ v. does next t env sc fr v)
does next (If c a b t u) env sc fr w = if compares c (atom_word env a) (atom_word env b) then does next t env sc fr w else does next u env sc fr w
does next (Fix ls t) env sc fr w = does next t env (Bound ls env sc) fr w
does next (Call f bs k hs) env sc fr w = next (ToFun f (atom_words env bs) (waiting k hs sc fr)) w
does next (Return bs) env sc fr w = returned next (atom_words env bs) fr w
does next (Throw e bs) env sc fr w = thrown next e (atom_words env bs) fr w
does next (Jump l bs) env sc fr w = next (ToLabel l (atom_words env bs) sc fr) w
does next (Halt e bs) env sc fr w = over (ended e (atom_words env bs)) w

-- a label does its body under the assignment where it was made, and its parameters' words
abbrev pub at_body : Next → Option Body → Env → Scope → List ℕ → Frames → World → FullOutcome → FullOutcome
at_body next (Some b) env sc ws fr w other = does next b.term (assigned_all env b.params ws) sc fr w
at_body next None env sc ws fr w other = other

-- at the nearest label of the number; at none, which no formed program names, the run is going for ever
abbrev pub enter_label : Next → ℕ → List ℕ → Scope → Frames → World → FullOutcome
enter_label next l ws Top fr w = over outcome.Going w
enter_label next l ws (Bound ls env sc) fr w = at_body next (label_in l ls) env (Bound ls env sc) ws fr w (enter_label next l ws sc fr w)

-- the assignment in which every variable has the word 0
abbrev pub blank : Env
blank = λ x. 0

abbrev pub enter_fun : Next → Option Fun → List ℕ → Frames → World → FullOutcome
enter_fun next (Some f) ws fr w = does next f.body (assigned_all blank f.params ws) Top fr w
enter_fun next None ws fr w = over outcome.Going w

abbrev pub enter : List Fun → Next → Task → World → FullOutcome
enter funs next (ToLabel l ws sc fr) w = enter_label next l ws sc fr w
enter funs next (ToFun f ws fr) w = enter_fun next (slice_get funs f) ws fr w

-- a task with n jumps, calls and returns to labels left; where none is left the run is going
abbrev pub run : List Fun → ℕ → Next
run funs zero task w = over outcome.Going w
run funs (suc n) task w = enter funs (run funs n) task w

-- the meaning of a program on these words and memories: its full outcome for each number of jumps, calls and returns; the start of main
-- takes none, nor does an end
abbrev pub cps_meaning : List Fun → ℕ → List ℕ → Memories → Meaning
cps_meaning funs main args p n = enter_fun (run funs n) (slice_get funs main) args Bottom (begun p)

-- how many words main takes
abbrev pub params_of : Option Fun → ℕ
params_of (Some f) = length f.params
params_of None = 0

abbrev pub params_in : List Fun → ℕ → ℕ
params_in funs main = params_of (slice_get funs main)
