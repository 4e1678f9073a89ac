-- When labels are in single-use form, rule by rule.
use Rattle.std.specs.Prelude.{◌≡◌, ℕ, ◌+◌, ◌*◌, ◌<◌, ◌⊎◌, ◌/◌, ◌%◌, ◌^◌, ◌==◌, nat_le, nat_lt, Bool, true, false, not, ◌&&◌, List, [], ◌∷◌, ◌++◌, Option, Some, None, slice_get, length, if◌then◌else◌}
use Rattle.std.specs.List.{list_all, list_any}
use Rattle.nv_base.specs.declared.term.Mem.{Mem}
use Rattle.nv_base.specs.declared.term.Mem.TheVariants.{Sram, Sdram, Scratch}
use Rattle.nv_base.specs.Access.{has_count, can_move}
use Rattle.nv_base.specs.Memories.{source_scratch}
use Rattle.nv_base.specs.Sets.{is_in, all_different}
use Rattle.ssu_ir.specs.Tree.{Step, Lit, Una, Bin, Clone, Read, Write, Last, Jump, Halt, Tree, Do, If, End, Label, step_values, step_clones, last_uses}
use Rattle.ssu_ir.specs.Points.{own, used}

-- ---- each variable is defined once

abbrev pub defined : Tree → List ℕ
defined (Do s t) = step_values s ++ (step_clones s ++ defined t)
defined (If c x y t u) = defined t ++ defined u
defined (End l) = []

abbrev pub all_defined : List Label → List ℕ
all_defined [] = []
all_defined (l ∷ ls) = l.params ++ (defined l.body ++ all_defined ls)

-- ---- nodes by themselves

-- a number below 2^16, shifted to the left by 0, 8 or 16
abbrev pub is_narrow : ℕ → Bool
is_narrow v = list_any (λ k. ((v % 2 ^ k) == 0) && nat_lt (v / 2 ^ k) (2 ^ 16)) (0 ∷ 8 ∷ 16 ∷ [])

-- what the test says
abbrev pub IsNarrow : ℕ → Type 0
IsNarrow v = (w : ℕ) × (w < 2 ^ 16) × ((v ≡ w) ⊎ ((v ≡ w * 2 ^ 8) ⊎ (v ≡ w * 2 ^ 16)))

-- a literal is narrow, a shift's count is 1 to 31, and an access has 1 to 8 words, of SDRAM an even number
abbrev pub is_step : Step → Bool
is_step (Lit x v) = is_narrow v
is_step (Una x op y) = has_count op
is_step (Bin x op y z) = true
is_step (Clone xs y) = true
is_step (Read m xs y) = can_move m (length xs)
is_step (Write m y xs) = can_move m (length xs)

-- a label of so many parameters
abbrev pub takes_as_many : ℕ → Option Label → Bool
takes_as_many n (Some l) = length l.params == n
takes_as_many n None = false

-- a jump names a label that is there and isn't label 0, with as many words as that has parameters; an end has at most 8
abbrev pub is_last : List Label → Last → Bool
is_last labels (Jump l xs) = nat_le 1 l && takes_as_many (length xs) (slice_get labels l)
is_last labels (Halt e xs) = nat_le (length xs) 8

abbrev pub are_nodes : List Label → Tree → Bool
are_nodes labels (Do s t) = is_step s && are_nodes labels t
are_nodes labels (If c x y t u) = are_nodes labels t && are_nodes labels u
are_nodes labels (End l) = is_last labels l

-- ---- each variable is used at most once on each path, where a `Clone` uses its source

abbrev pub step_names : Step → List ℕ
step_names (Lit x v) = []
step_names (Una x op y) = y ∷ []
step_names (Bin x op y z) = y ∷ z ∷ []
step_names (Clone xs y) = y ∷ []
step_names (Read m xs y) = y ∷ []
step_names (Write m y xs) = y ∷ xs

-- the variables that a tree uses
abbrev pub names : Tree → List ℕ
names (Do s t) = step_names s ++ names t
names (If c x y t u) = x ∷ y ∷ (names t ++ names u)
names (End l) = last_uses l

-- these are all different, and none of them is among the others
abbrev pub are_new : List ℕ → List ℕ → Bool
are_new xs others = all_different xs && list_all (λ x. not (is_in x others)) xs

abbrev pub uses_once : Tree → Bool
uses_once (Do s t) = are_new (step_names s) (names t) && uses_once t
uses_once (If c x y t u) = are_new (x ∷ y ∷ []) (names t ++ names u) && (uses_once t && uses_once u)
uses_once (End l) = all_different (last_uses l)

-- ---- every variable that is used is a parameter of its label or defined above

abbrev pub all_known : List ℕ → List ℕ → Bool
all_known known xs = list_all (λ x. is_in x known) xs

abbrev pub is_scoped : List ℕ → Tree → Bool
is_scoped known (Do s t) = all_known known (step_names s) && is_scoped (known ++ (step_values s ++ step_clones s)) t
is_scoped known (If c x y t u) = all_known known (x ∷ y ∷ []) && (is_scoped known t && is_scoped known u)
is_scoped known (End l) = all_known known (last_uses l)

-- ---- the clones of a value stand directly after its definition, so that its own variable has no other use

-- after a step, the values whose clones may stand there; `fresh` are those that have them before it
abbrev pub fresh_after : List ℕ → Step → List ℕ
fresh_after fresh (Lit x v) = x ∷ []
fresh_after fresh (Una x op y) = x ∷ []
fresh_after fresh (Bin x op y z) = x ∷ []
fresh_after fresh (Clone xs y) = fresh
fresh_after fresh (Read m xs y) = xs
fresh_after fresh (Write m y xs) = []

abbrev pub clones_fresh : List ℕ → Step → Bool
clones_fresh fresh (Lit x v) = true
clones_fresh fresh (Una x op y) = true
clones_fresh fresh (Bin x op y z) = true
clones_fresh fresh (Clone xs y) = is_in y fresh
clones_fresh fresh (Read m xs y) = true
clones_fresh fresh (Write m y xs) = true

abbrev pub clones_early : List ℕ → Tree → Bool
clones_early fresh (Do s t) = clones_fresh fresh s && clones_early (fresh_after fresh s) t
clones_early fresh (If c x y t u) = clones_early [] t && clones_early [] u
clones_early fresh (End l) = true

-- ---- of every value that a `Lit`, `Una` or `Bin` defines, some copy is used

-- the values that have to be used
abbrev pub step_results : Step → List ℕ
step_results (Lit x v) = x ∷ []
step_results (Una x op y) = x ∷ []
step_results (Bin x op y z) = x ∷ []
step_results (Clone xs y) = []
step_results (Read m xs y) = []
step_results (Write m y xs) = []

abbrev pub results_used : Tree → Bool
results_used (Do s t) = list_all (λ x. is_in x (used own t)) (step_results s) && results_used t
results_used (If c x y t u) = results_used t && results_used u
results_used (End l) = true

-- ---- scratch is addressed by copies of literals, and its words lie below 512

-- the number of each name that is a copy of a literal
abbrev pub Numbers : Type 0
Numbers = ℕ → Option ℕ

abbrev pub unknown : Numbers
unknown x = None

abbrev pub numbered : Numbers → List ℕ → Option ℕ → Numbers
numbered number xs o = λ z. if is_in z xs then o else number z

abbrev pub numbers_after : Numbers → Step → Numbers
numbers_after number (Lit x v) = numbered number (x ∷ []) (Some v)
numbers_after number (Una x op y) = numbered number (x ∷ []) None
numbers_after number (Bin x op y z) = numbered number (x ∷ []) None
numbers_after number (Clone xs y) = numbered number xs (number y)
numbers_after number (Read m xs y) = numbered number xs None
numbers_after number (Write m y xs) = number

-- N words from a number on lie below 512
abbrev pub fits_scratch : ℕ → Option ℕ → Bool
fits_scratch n (Some v) = nat_le (v + n) source_scratch
fits_scratch n None = false

abbrev pub is_address : Mem → Option ℕ → ℕ → Bool
is_address Sram o n = true
is_address Sdram o n = true
is_address Scratch o n = fits_scratch n o

abbrev pub is_addressed : Numbers → Step → Bool
is_addressed number (Lit x v) = true
is_addressed number (Una x op y) = true
is_addressed number (Bin x op y z) = true
is_addressed number (Clone xs y) = true
is_addressed number (Read m xs y) = is_address m (number y) (length xs)
is_addressed number (Write m y xs) = is_address m (number y) (length xs)

abbrev pub are_addressed : Numbers → Tree → Bool
are_addressed number (Do s t) = is_addressed number s && are_addressed (numbers_after number s) t
are_addressed number (If c x y t u) = are_addressed number t && are_addressed number u
are_addressed number (End l) = true

-- ---- the whole

-- label 0 is there, and has at most 8 parameters
abbrev pub is_entry : Option Label → Bool
is_entry (Some l) = nat_le (length l.params) 8
is_entry None = false

-- what a label keeps by itself
abbrev pub is_single : List Label → Label → Bool
is_single labels l =
    are_nodes labels l.body
    && (uses_once l.body
    && (is_scoped l.params l.body
    && (clones_early l.params l.body
    && (results_used l.body
    && are_addressed unknown l.body))))

abbrev pub single : List Label → Bool
single labels = is_entry (slice_get labels 0) && (all_different (all_defined labels) && list_all (is_single labels) labels)
