-- Closing: each label of a function gets what it wants as parameters after its own, and each jump gives it that.
use Rattle.std.specs.Prelude.{◌≡◌, ℕ, suc, nat_eq, Bool, true, false, if◌then◌else◌, List, [], ◌∷◌, ◌++◌, map, Option, Some, None, slice_get, slice_set, length}
use Rattle.nv_base.specs.declared.term.Atom.{Atom}
use Rattle.nv_base.specs.declared.term.Atom.TheVariants.{Var}
use Rattle.nv_base.specs.Words.{atom_vars, prim_vars}
use Rattle.nv_base.specs.Sets.{is_in, all_vars}
use Rattle.cps_ir.specs.Term as cps
use Rattle.cps_ir.specs.View.{Seen}
use Rattle.flow_ir.specs.Tree as flow

-- ---- the labels of a term

abbrev mutual
  -- each behind those of its own body
  pub labels_in : cps.Term → List Seen
  labels_in (cps.Let x a t) = labels_in t
  labels_in (cps.Read m xs a t) = labels_in t
  labels_in (cps.Write m a bs t) = labels_in t
  labels_in (cps.If c a b t u) = labels_in t ++ labels_in u
  labels_in (cps.Fix ls t) = labels_of_all ls ++ labels_in t
  labels_in (cps.Call f bs k hs) = []
  labels_in (cps.Return bs) = []
  labels_in (cps.Throw e bs) = []
  labels_in (cps.Jump l bs) = []
  labels_in (cps.Halt e bs) = []

  pub labels_of_all : cps.Labels → List Seen
  labels_of_all cps.none = []
  labels_of_all (cps.label l xs t ls) = labels_in t ++ record { label = l; params = xs; body = t } ∷ labels_of_all ls

-- ---- a table of labels

-- at which index a label stands, and what each wants, by its index
pub record Table : Type 0 where
  pub index : ℕ → Option ℕ
  pub lists : List (List ℕ)

-- an index, or else this one if it is here
abbrev pub or_here : Option ℕ → Bool → ℕ → Option ℕ
or_here (Some j) here i = Some j
or_here None true i = Some i
or_here None false i = None

-- the last index of a label among some, the first of which has this one
abbrev pub index_of : ℕ → List Seen → ℕ → Option ℕ
index_of i [] l = None
index_of i (c ∷ cs) l = or_here (index_of (suc i) cs l) (nat_eq c.label l) i

abbrev pub or_nothing : Option (List ℕ) → List ℕ
or_nothing (Some xs) = xs
or_nothing None = []

-- what the label at an index wants
abbrev pub needed_there : List (List ℕ) → Option ℕ → List ℕ
needed_there ws (Some i) = or_nothing (slice_get ws i)
needed_there ws None = []

abbrev pub needed : Table → ℕ → List ℕ
needed tab l = needed_there tab.lists (tab.index l)

-- labels are numbered from 1 on in the flow, since the function begins at 0
abbrev pub number_there : Option ℕ → ℕ
number_there (Some i) = suc i
number_there None = 0

abbrev pub number : Table → ℕ → ℕ
number tab l = number_there (tab.index l)

-- ---- the flow

abbrev pub operands : List ℕ → List Atom
operands xs = map (λ x. Var x) xs

abbrev pub tree_of : Table → cps.Term → flow.Tree
tree_of tab (cps.Let x a t) = flow.Let x a (tree_of tab t)
tree_of tab (cps.Read m xs a t) = flow.Read m xs a (tree_of tab t)
tree_of tab (cps.Write m a bs t) = flow.Write m a bs (tree_of tab t)
tree_of tab (cps.If c a b t u) = flow.If c a b (tree_of tab t) (tree_of tab u)
tree_of tab (cps.Fix ls t) = tree_of tab t
tree_of tab (cps.Call f bs k hs) = flow.Halt 0 []
tree_of tab (cps.Return bs) = flow.Halt 0 []
tree_of tab (cps.Throw e bs) = flow.Halt 0 []
tree_of tab (cps.Jump l bs) = flow.Jump (number tab l) (bs ++ operands (needed tab l))
tree_of tab (cps.Halt e bs) = flow.Halt e bs

-- a label with these after its own parameters
abbrev pub with_wanted : Table → Seen → List ℕ → flow.Label
with_wanted tab c ws = record { params = c.params ++ ws; body = tree_of tab c.body }

-- those of some labels, each with what it wants
abbrev pub closed_labels : Table → List Seen → List (List ℕ) → List flow.Label
closed_labels tab [] ws = []
closed_labels tab (c ∷ cs) [] = with_wanted tab c [] ∷ closed_labels tab cs []
closed_labels tab (c ∷ cs) (w ∷ ws) = with_wanted tab c w ∷ closed_labels tab cs ws

-- of a function
abbrev pub closed : Table → cps.Fun → List flow.Label
closed tab f = record { params = f.params; body = tree_of tab f.body } ∷ closed_labels tab (labels_in f.body) tab.lists

-- ---- what labels want

-- what a term uses up to its jumps and at them, where its labels' bodies don't count
abbrev pub used : Table → cps.Term → List ℕ
used tab (cps.Let x a t) = prim_vars a ++ used tab t
used tab (cps.Read m xs a t) = atom_vars a ++ used tab t
used tab (cps.Write m a bs t) = all_vars (a ∷ bs) ++ used tab t
used tab (cps.If c a b t u) = all_vars (a ∷ b ∷ []) ++ (used tab t ++ used tab u)
used tab (cps.Fix ls t) = used tab t
used tab (cps.Call f bs k hs) = []
used tab (cps.Return bs) = []
used tab (cps.Throw e bs) = []
used tab (cps.Jump l bs) = all_vars bs ++ needed tab l
used tab (cps.Halt e bs) = all_vars bs

-- what it defines there
abbrev pub defines : cps.Term → List ℕ
defines (cps.Let x a t) = x ∷ defines t
defines (cps.Read m xs a t) = xs ++ defines t
defines (cps.Write m a bs t) = defines t
defines (cps.If c a b t u) = defines t ++ defines u
defines (cps.Fix ls t) = defines t
defines (cps.Call f bs k hs) = []
defines (cps.Return bs) = []
defines (cps.Throw e bs) = []
defines (cps.Jump l bs) = []
defines (cps.Halt e bs) = []

abbrev pub bound : Seen → List ℕ
bound c = c.params ++ defines c.body

-- a variable joins a list if it is neither there nor bound
abbrev pub noted : List ℕ → List ℕ → ℕ → List ℕ
noted gone ws x = if is_in x (gone ++ ws) then ws else ws ++ x ∷ []

abbrev pub noted_all : List ℕ → List ℕ → List ℕ → List ℕ
noted_all gone ws [] = ws
noted_all gone ws (x ∷ xs) = noted_all gone (noted gone ws x) xs

-- what a label at an index wants, when it wants all that it uses
abbrev pub grown : Table → Seen → ℕ → List ℕ
grown tab c i = noted_all (bound c) (needed_there tab.lists (Some i)) (used tab c.body)

-- a table in which the label at an index wants these
abbrev pub with_list : Table → ℕ → List ℕ → Table
with_list tab i vs = record { index = tab.index; lists = slice_set tab.lists i vs }

abbrev pub step : Table → Seen → ℕ → Table
step tab c i = with_list tab i (grown tab c i)

abbrev pub step_there : Table → Option Seen → ℕ → Table
step_there tab (Some c) i = step tab c i
step_there tab None i = tab

-- where no label wants anything
abbrev pub none_wanted : List Seen → List (List ℕ)
none_wanted [] = []
none_wanted (c ∷ cs) = [] ∷ none_wanted cs

abbrev pub start : List Seen → Table
start cs = record { index = index_of 0 cs; lists = none_wanted cs }

-- after steps at these indices, the last one first
abbrev pub after : List Seen → List ℕ → Table
after cs [] = start cs
after cs (i ∷ is) = step_there (after cs is) (slice_get cs i) i

-- a table that steps make of the first one
pub record IsReached (cs : List Seen) (tab : Table) : Type 0 where
  pub steps : List ℕ
  pub lists : tab.lists ≡ (after cs steps).lists
  pub index : (l : ℕ) → tab.index l ≡ index_of 0 cs l

-- no step changes what the label at an index wants
abbrev pub IsStill : List Seen → Table → ℕ → Type 0
IsStill cs tab i = (c : Seen) → slice_get cs i ≡ Some c → length (grown tab c i) ≡ length (needed_there tab.lists (Some i))

pub record IsTable (cs : List Seen) (tab : Table) : Type 0 where
  pub reached : IsReached cs tab
  pub still : (i : ℕ) → IsStill cs tab i

-- these are the labels of a function's flow, by such a table
pub record IsClosed (f : cps.Fun) (all : List flow.Label) : Type 0 where
  pub tab : Table
  pub table : IsTable (labels_in f.body) tab
  pub labels : all ≡ closed tab f
