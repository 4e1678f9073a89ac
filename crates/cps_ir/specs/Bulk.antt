-- How much code a program makes when each call of an earlier group gets a copy of that group, as of flat programs: labels, jumps, other
-- nodes, and the words that the other nodes define and use.
use Rattle.std.specs.Prelude.{ℕ, zero, suc, ◌+◌, nat_lt, ◌==◌, if◌then◌else◌, List, [], ◌∷◌, Option, Some, None, slice_get, length}
use Rattle.nv_base.specs.Measures.{Bulk, Bulks, nothing, a_label, a_jump, a_node, both, IsAtMost}
use Rattle.cps_ir.specs.Term.{Term, Let, Read, Write, If, Fix, Call, Return, Throw, Jump, Halt, Labels, none, label, Fun}

-- of a call beside its jump: a function of an earlier group comes with its whole group
abbrev pub call_bulk : Bulks → ℕ → Option Fun → Bulk
call_bulk w own (Some f) = if nat_lt f.group own then w f.group else nothing
call_bulk w own None = nothing

abbrev mutual
  -- of a term in a function of this group. A `Let` counts two operands, since it may get another primitive.
  pub term_bulk : List Fun → Bulks → ℕ → Term → Bulk
  term_bulk funs w own (Let x a t) = both (a_node 1 2) (term_bulk funs w own t)
  term_bulk funs w own (Read m xs a t) = both (a_node (length xs) 1) (term_bulk funs w own t)
  term_bulk funs w own (Write m a bs t) = both (a_node 0 (1 + length bs)) (term_bulk funs w own t)
  term_bulk funs w own (If c a b t u) = both (a_node 0 2) (both (term_bulk funs w own t) (term_bulk funs w own u))
  term_bulk funs w own (Fix ls t) = both (labels_bulk funs w own ls) (term_bulk funs w own t)
  term_bulk funs w own (Call f bs k hs) = both a_jump (call_bulk w own (slice_get funs f))
  term_bulk funs w own (Return bs) = a_jump
  term_bulk funs w own (Throw e bs) = a_jump
  term_bulk funs w own (Jump l bs) = a_jump
  term_bulk funs w own (Halt e bs) = a_jump

  pub labels_bulk : List Fun → Bulks → ℕ → Labels → Bulk
  labels_bulk funs w own none = nothing
  labels_bulk funs w own (label l xs t ls) = both (both a_label (term_bulk funs w own t)) (labels_bulk funs w own ls)

-- of a function: a label, and its body
abbrev pub function_bulk : List Fun → Bulks → Fun → Bulk
function_bulk funs w f = both a_label (term_bulk funs w f.group f.body)

-- the functions of a group together, among some functions of the program
abbrev pub sum_bulk : List Fun → Bulks → ℕ → List Fun → Bulk
sum_bulk funs w group [] = nothing
sum_bulk funs w group (f ∷ fs) = both (if f.group == group then function_bulk funs w f else nothing) (sum_bulk funs w group fs)

-- the bulks of groups by a recursion of N steps, each of which is a call of an earlier group
abbrev pub bulks_within : List Fun → ℕ → Bulks
bulks_within funs zero group = nothing
bulks_within funs (suc n) group = sum_bulk funs (bulks_within funs n) group funs

abbrev pub group_bulk : List Fun → Bulks
group_bulk funs group = bulks_within funs (suc group) group

-- of a program: a label from which main is begun, and the group of main, which has this number among the functions
abbrev pub main_bulk : List Fun → Option Fun → Bulk
main_bulk funs (Some f) = both (both a_label a_jump) (group_bulk funs f.group)
main_bulk funs None = nothing

abbrev pub bulk : List Fun → ℕ → Bulk
bulk funs main = main_bulk funs (slice_get funs main)

-- of the code alone: the group of main, without a label from which main is begun
abbrev pub main_code : List Fun → Option Fun → Bulk
main_code funs (Some f) = group_bulk funs f.group
main_code funs None = nothing

abbrev pub code_bulk : List Fun → ℕ → Bulk
code_bulk funs main = main_code funs (slice_get funs main)

-- the functions of each group have together at most the bulk that is given for it, where every call counts that of the called group
pub record AreBulks (funs : List Fun) (w : Bulks) : Type 0 where
  pub by : (group : ℕ) → IsAtMost (sum_bulk funs w group funs) (w group)
