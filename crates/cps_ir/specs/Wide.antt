-- How many words a program wants at once: the greatest width of a place along any chain of calls, as of flat programs (a width counts the
-- different variables that are wanted at a place, and the operands of its node). A label wants its body's free variables, and what the
-- labels want that it goes on to; all labels of one `Fix` want the same together.
use Rattle.std.specs.Prelude.{◌≡◌, ℕ, zero, suc, ◌+◌, ◌≤◌, max, nat_eq, nat_lt, ◌==◌, if◌then◌else◌, List, [], ◌∷◌, ◌++◌, Option, Some, None, slice_get, length}
use Rattle.nv_base.specs.Words.{atom_vars, prim_vars}
use Rattle.nv_base.specs.Sets.{different, without, all_vars}
use Rattle.nv_base.specs.Measures.{operands_wide, let_wide, entry_wide, Widths}
use Rattle.cps_ir.specs.Term.{Handler, Term, Let, Read, Write, If, Fix, Call, Return, Throw, Jump, Halt, Labels, none, label, Fun}

-- ---- what is wanted

-- what each label wants
abbrev pub Wants : Type 0
Wants = ℕ → List ℕ

-- the labels of a Fix want these
abbrev pub with_wants : Wants → Labels → List ℕ → Wants
with_wants phi none vs = phi
with_wants phi (label l xs t ls) vs = λ m. if nat_eq l m then vs else with_wants phi ls vs m

abbrev pub to_wants : Wants → Option ℕ → List ℕ
to_wants phi (Some l) = phi l
to_wants phi None = []

abbrev pub handlers_want : Wants → List Handler → List ℕ
handlers_want phi [] = []
handlers_want phi (h ∷ hs) = phi h.1 ++ handlers_want phi hs

-- what a call keeps: what its label and its handlers want
abbrev pub kept : Wants → Option ℕ → List Handler → List ℕ
kept phi k hs = to_wants phi k ++ handlers_want phi hs

abbrev mutual
  -- what a term wants: its free variables, and what the labels want that it goes to
  pub wants : Wants → Term → List ℕ
  wants phi (Let x a t) = prim_vars a ++ without (wants phi t) (x ∷ [])
  wants phi (Read m xs a t) = atom_vars a ++ without (wants phi t) xs
  wants phi (Write m a bs t) = all_vars (a ∷ bs) ++ wants phi t
  wants phi (If c a b t u) = all_vars (a ∷ b ∷ []) ++ (wants phi t ++ wants phi u)
  wants phi (Fix ls t) = wants (with_wants phi ls (labels_want (with_wants phi ls []) ls)) t
  wants phi (Call f bs k hs) = all_vars bs ++ kept phi k hs
  wants phi (Return bs) = all_vars bs
  wants phi (Throw e bs) = all_vars bs
  wants phi (Jump l bs) = all_vars bs ++ phi l
  wants phi (Halt e bs) = all_vars bs

  -- what labels want together, where they want nothing of one another
  pub labels_want : Wants → Labels → List ℕ
  labels_want phi none = []
  labels_want phi (label l xs t ls) = without (wants phi t) xs ++ labels_want phi ls

-- what each label wants inside of a Fix
abbrev pub inside : Wants → Labels → Wants
inside phi ls = with_wants phi ls (labels_want (with_wants phi ls []) ls)

-- ---- widths of places

-- of a call beside its operands, where so many variables are kept: a function of an earlier group is held with them; those of the own
-- group take over, since nothing is kept there
abbrev pub call_wide : Widths → ℕ → ℕ → Option Fun → ℕ
call_wide w own held (Some f) = if nat_lt f.group own then held + w f.group else 0
call_wide w own held None = 0

abbrev mutual
  -- the greatest width of a place of a term in a function of this group
  pub term_wide : List Fun → Widths → ℕ → Wants → Term → ℕ
  term_wide funs w own phi (Let x a t) = max (let_wide (prim_vars a ++ without (wants phi t) (x ∷ []))) (term_wide funs w own phi t)
  term_wide funs w own phi (Read m xs a t) =
      max (max (operands_wide (without (wants phi t) xs) (a ∷ [])) (different (xs ++ wants phi t))) (term_wide funs w own phi t)
  term_wide funs w own phi (Write m a bs t) = max (operands_wide (wants phi t) (a ∷ bs)) (term_wide funs w own phi t)
  term_wide funs w own phi (If c a b t u) =
      max (operands_wide (wants phi t ++ wants phi u) (a ∷ b ∷ [])) (max (term_wide funs w own phi t) (term_wide funs w own phi u))
  term_wide funs w own phi (Fix ls t) =
      max (labels_wide funs w own (inside phi ls) (labels_want (with_wants phi ls []) ls) ls) (term_wide funs w own (inside phi ls) t)
  term_wide funs w own phi (Call f bs k hs) = max (operands_wide (kept phi k hs) bs) (call_wide w own (different (kept phi k hs)) (slice_get funs f))
  term_wide funs w own phi (Return bs) = operands_wide [] bs
  term_wide funs w own phi (Throw e bs) = operands_wide [] bs
  term_wide funs w own phi (Jump l bs) = operands_wide (phi l) bs
  term_wide funs w own phi (Halt e bs) = operands_wide [] bs

  -- of labels that want these variables: where one begins with its parameters, and in its body
  pub labels_wide : List Fun → Widths → ℕ → Wants → List ℕ → Labels → ℕ
  labels_wide funs w own phi held none = 0
  labels_wide funs w own phi held (label l xs t ls) =
      max (max (entry_wide held (length xs)) (term_wide funs w own phi t)) (labels_wide funs w own phi held ls)

-- ---- functions, groups and programs

-- no label is there
abbrev pub nowhere : Wants
nowhere = λ l. []

-- of a function: its parameters, and its body
abbrev pub function_wide : List Fun → Widths → Fun → ℕ
function_wide funs w f = max (entry_wide [] (length f.params)) (term_wide funs w f.group nowhere f.body)

-- the greatest of the functions of a group, among some functions of the program
abbrev pub greatest_wide : List Fun → Widths → ℕ → List Fun → ℕ
greatest_wide funs w group [] = 0
greatest_wide funs w group (f ∷ fs) = max (if f.group == group then function_wide funs w f else 0) (greatest_wide funs w group fs)

-- the widths of groups by a recursion of N steps, each of which is a call of an earlier group
abbrev pub widths_within : List Fun → ℕ → Widths
widths_within funs zero group = 0
widths_within funs (suc n) group = greatest_wide funs (widths_within funs n) group funs

abbrev pub group_wide : List Fun → Widths
group_wide funs group = widths_within funs (suc group) group

abbrev pub main_wide : List Fun → Option Fun → ℕ
main_wide funs (Some f) = group_wide funs f.group
main_wide funs None = 0

-- of a program: that of the group of main, which has this number among the functions
abbrev pub wide : List Fun → ℕ → ℕ
wide funs main = main_wide funs (slice_get funs main)

-- each function is at most as wide as this number of its group, where every call counts the number of the called group
pub record AreWidths (funs : List Fun) (w : Widths) : Type 0 where
  pub by : (i : ℕ) (f : Fun) → slice_get funs i ≡ Some f → function_wide funs w f ≤ w f.group
