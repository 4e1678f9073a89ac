-- The rules of single use in the form in which they are tested: name by name, down the tree below where the name stands, so that nothing
-- has to be kept on the way.
use Rattle.std.specs.Prelude.{ℕ, ◌+◌, ◌==◌, nat_eq, Bool, true, not, ◌&&◌, ◌||◌, List, [], ◌∷◌, ◌++◌, Option, Some, None, slice_get, length, if◌then◌else◌}
use Rattle.std.specs.List.{list_all, list_any}
use Rattle.nv_base.specs.Sets.{is_in, all_different}
use Rattle.ssu_ir.specs.Tree.{Step, Lit, Una, Bin, Clone, Read, Write, Tree, Do, If, End, Label, Node, Does, Forks, Ends, step_values, step_clones, step_uses, last_uses, node_values}
use Rattle.ssu_ir.specs.Single.{all_defined, is_step, is_last, step_names, names, are_new, fresh_after, clones_fresh, step_results, is_address, is_entry}

-- ---- of a node

abbrev pub node_names : Node → List ℕ
node_names (Does s) = step_names s
node_names (Forks c x y) = x ∷ y ∷ []
node_names (Ends l) = last_uses l

abbrev pub step_defs : Step → List ℕ
step_defs s = step_values s ++ step_clones s

abbrev pub node_defs : Node → List ℕ
node_defs (Does s) = step_defs s
node_defs (Forks c x y) = []
node_defs (Ends l) = []

abbrev pub is_node : List Label → Node → Bool
is_node labels (Does s) = is_step s
is_node labels (Forks c x y) = true
is_node labels (Ends l) = is_last labels l

-- ---- how often a name stands in a list

abbrev pub times_in : ℕ → List ℕ → ℕ
times_in x [] = 0
times_in x (y ∷ ys) = (if nat_eq x y then 1 else 0) + times_in x ys

-- ---- whether a tree uses a name that it doesn't define above

abbrev pub is_free : ℕ → Tree → Bool
is_free x (Do s t) = is_in x (step_names s) || (not (is_in x (step_defs s)) && is_free x t)
is_free x (If c a b t u) = is_in x (a ∷ b ∷ []) || (is_free x t || is_free x u)
is_free x (End l) = is_in x (last_uses l)

-- ---- after a step, the names that stand for what a name stood for before it, where these have got another meaning

abbrev pub clones_from : Step → ℕ → List ℕ
clones_from (Lit x v) z = []
clones_from (Una x op y) z = []
clones_from (Bin x op y w) z = []
clones_from (Clone xs y) z = if nat_eq z y then xs else []
clones_from (Read m xs y) z = []
clones_from (Write m y xs) z = []

abbrev pub carried : List ℕ → Step → ℕ → List ℕ
carried gone s x = clones_from s x ++ (if is_in x gone then [] else x ∷ [])

-- ---- whether some copy of a name is used

abbrev pub copy_used : ℕ → Tree → Bool
copy_used x (Do s t) = is_in x (step_uses s) || list_any (λ z. copy_used z t) (carried (step_clones s) s x)
copy_used x (If c a b t u) = is_in x (a ∷ b ∷ []) || (copy_used x t || copy_used x u)
copy_used x (End l) = is_in x (last_uses l)

-- ---- whether every access by a copy of a name may be, where the name is a copy of this literal or of none

abbrev pub access_fits : Step → ℕ → Option ℕ → Bool
access_fits (Lit x v) z o = true
access_fits (Una x op y) z o = true
access_fits (Bin x op y w) z o = true
access_fits (Clone xs y) z o = true
access_fits (Read m xs y) z o = if nat_eq z y then is_address m o (length xs) else true
access_fits (Write m y xs) z o = if nat_eq z y then is_address m o (length xs) else true

abbrev pub addressed : Option ℕ → ℕ → Tree → Bool
addressed o x (Do s t) = access_fits s x o && list_all (λ z. addressed o z t) (carried (step_defs s) s x)
addressed o x (If c a b t u) = addressed o x t && addressed o x u
addressed o x (End l) = true

abbrev pub number_of : Step → Option ℕ
number_of (Lit x v) = Some v
number_of (Una x op y) = None
number_of (Bin x op y z) = None
number_of (Clone xs y) = None
number_of (Read m xs y) = None
number_of (Write m y xs) = None

-- ---- the tests of a tree

-- a name that is used in a body is a parameter or isn't free, and addresses no scratch before it is defined
abbrev pub is_bound : List ℕ → Tree → ℕ → Bool
is_bound params body x = (is_in x params || not (is_free x body)) && addressed None x body

abbrev pub is_once : List Label → ℕ → Bool
is_once labels x = times_in x (all_defined labels) == 1

-- of a node, where the trees after it use these names
abbrev pub node_kept : List Label → (ℕ → Bool) → Node → List ℕ → Bool
node_kept labels known n successors = is_node labels n && (are_new (node_names n) successors && list_all known (node_names n))

-- of what a step defines
abbrev pub step_kept : List Label → List ℕ → Step → Tree → Bool
step_kept labels fresh s t =
    list_all (is_once labels) (step_defs s)
    && (clones_fresh fresh s && (list_all (λ x. copy_used x t) (step_results s) && list_all (λ x. addressed (number_of s) x t) (step_values s)))

abbrev pub is_kept : List Label → (ℕ → Bool) → List ℕ → Tree → Bool
is_kept labels known fresh (Do s t) = node_kept labels known (Does s) (names t) && (step_kept labels fresh s t && is_kept labels known (fresh_after fresh s) t)
is_kept labels known fresh (If c x y t u) =
    node_kept labels known (Forks c x y) (names t ++ names u) && (is_kept labels known [] t && is_kept labels known [] u)
is_kept labels known fresh (End l) = node_kept labels known (Ends l) []

abbrev pub label_kept : List Label → Label → Bool
label_kept labels l = list_all (is_once labels) l.params && is_kept labels (is_bound l.params l.body) l.params l.body

abbrev pub all_kept : List Label → Bool
all_kept labels = is_entry (slice_get labels 0) && list_all (label_kept labels) labels

-- ---- the same of any node

abbrev pub node_clones : Node → List ℕ
node_clones (Does s) = step_clones s
node_clones (Forks c x y) = []
node_clones (Ends l) = []

abbrev pub node_results : Node → List ℕ
node_results (Does s) = step_results s
node_results (Forks c x y) = []
node_results (Ends l) = []

abbrev pub node_clones_from : Node → ℕ → List ℕ
node_clones_from (Does s) z = clones_from s z
node_clones_from (Forks c x y) z = []
node_clones_from (Ends l) z = []

abbrev pub node_number : Node → Option ℕ
node_number (Does s) = number_of s
node_number (Forks c x y) = None
node_number (Ends l) = None

abbrev pub node_fits : Node → ℕ → Option ℕ → Bool
node_fits (Does s) z o = access_fits s z o
node_fits (Forks c x y) z o = true
node_fits (Ends l) z o = true

abbrev pub node_fresh : List ℕ → Node → Bool
node_fresh fresh (Does s) = clones_fresh fresh s
node_fresh fresh (Forks c x y) = true
node_fresh fresh (Ends l) = true

abbrev pub node_fresh_after : List ℕ → Node → List ℕ
node_fresh_after fresh (Does s) = fresh_after fresh s
node_fresh_after fresh (Forks c x y) = []
node_fresh_after fresh (Ends l) = []

-- what a node defines, before one tree
abbrev pub defs_kept : List Label → List ℕ → Node → Tree → Bool
defs_kept labels fresh n t =
    list_all (is_once labels) (node_defs n)
    && (node_fresh fresh n && (list_all (λ x. copy_used x t) (node_results n) && list_all (λ x. addressed (node_number n) x t) (node_values n)))

-- what needs nothing after a node
abbrev pub node_alone : List Label → (ℕ → Bool) → Node → Bool
node_alone labels known n = is_node labels n && (all_different (node_names n) && list_all known (node_names n))
