-- How much code a flat program makes when each call of an earlier group gets a copy of that group: labels, jumps, other nodes, and the
-- words that the other nodes define and use.
use Rattle.std.specs.Prelude.{ℕ, zero, suc, ◌+◌, Bool, true, false, nat_lt, ◌==◌, if◌then◌else◌, List, [], ◌∷◌, Option, Some, None, slice_get, length}
use Rattle.nv_base.specs.Measures.{Bulk, nothing, a_label, a_jump, a_node, both, IsAtMost}
pub use Rattle.nv_base.specs.Measures.{Bulks}
use Rattle.flat_ir.specs.declared.flat.Flat.{Flat}
use Rattle.flat_ir.specs.declared.flat.Flat.TheVariants.{Let', Fetch', Store', If', Bind', Call, Raise, Try', Give}
use Rattle.flat_ir.specs.declared.flat.FlatFun.{FlatFun}

-- where the words of a call are those of the function, they come back at a label that hands them on
abbrev pub return_bulk : Bool → Bulk
return_bulk true = both a_label a_jump
return_bulk false = nothing

-- of a call beside its jump: a function of an earlier group comes with its whole group
abbrev pub call_bulk : Bulks → ℕ → Bool → Option FlatFun → Bulk
call_bulk w own last (Some f) = if nat_lt f.group own then both (return_bulk last) (w f.group) else nothing
call_bulk w own last None = nothing

-- of code in a function of this group; `last` says that what the code gives is what the function gives. A `Let` counts two operands, since
-- it may get another primitive; what is bound by a `Bind` or a handler belongs to its label.
abbrev pub code_bulk : List FlatFun → Bulks → ℕ → Bool → Flat → Bulk
code_bulk funs w own last (Let' x a q t) = both (a_node 1 2) (code_bulk funs w own last t)
code_bulk funs w own last (Fetch' m xs a q t) = both (a_node (length xs.items) 1) (code_bulk funs w own last t)
code_bulk funs w own last (Store' m a bs q t) = both (a_node 0 (1 + length bs.items)) (code_bulk funs w own last t)
code_bulk funs w own last (If' c a b q t r u) = both (a_node 0 2) (both (code_bulk funs w own last t) (code_bulk funs w own last u))
code_bulk funs w own last (Bind' xs q t r u) = both (both a_label (code_bulk funs w own false t)) (code_bulk funs w own last u)
code_bulk funs w own last (Call f bs) = both a_jump (call_bulk w own last (slice_get funs f))
code_bulk funs w own last (Raise k bs) = a_jump
code_bulk funs w own last (Try' q t k xs r u) = both (both a_label (code_bulk funs w own last t)) (code_bulk funs w own last u)
code_bulk funs w own last (Give bs) = a_jump

-- of a function: a label, and its body
abbrev pub function_bulk : List FlatFun → Bulks → FlatFun → Bulk
function_bulk funs w f = both a_label (code_bulk funs w f.group true f.body)

-- the functions of a group together, among some functions of the program
abbrev pub sum_bulk : List FlatFun → Bulks → ℕ → List FlatFun → Bulk
sum_bulk funs w group [] = nothing
sum_bulk funs w group (f ∷ fs) = both (if f.group == group then function_bulk funs w f else nothing) (sum_bulk funs w group fs)

-- the bulks of groups by a recursion of N steps, each of which is a call of an earlier group. A group's number and 1 are enough
-- for it, since each such call leads to a lower number.
abbrev pub bulks_within : List FlatFun → ℕ → Bulks
bulks_within funs zero group = nothing
bulks_within funs (suc n) group = sum_bulk funs (bulks_within funs n) group funs

abbrev pub group_bulk : List FlatFun → Bulks
group_bulk funs group = bulks_within funs (suc group) group

-- of a program: a label from which main is begun, and the group of main, which has this number among the functions
abbrev pub main_bulk : List FlatFun → Option FlatFun → Bulk
main_bulk funs (Some f) = both (both a_label a_jump) (group_bulk funs f.group)
main_bulk funs None = nothing

abbrev pub bulk : List FlatFun → ℕ → Bulk
bulk funs main = main_bulk funs (slice_get funs main)

-- ---- bounds

-- the functions of each group have together at most the bulk that is given for it, where every call counts that of the called group
pub record AreBulks (funs : List FlatFun) (w : Bulks) : Type 0 where
  pub by : (group : ℕ) → IsAtMost (sum_bulk funs w group funs) (w group)
