-- How many words a flat program wants at once: the greatest width of a place along any chain of calls.
-- A width counts the different live variables and, of a node, its operands, literals among them. What a later pass does to a node in
-- place stays within its width: a literal may want a second word while it is made, and a `Let` may get another primitive with two operands.
use Rattle.std.specs.Prelude.{◌≡◌, ℕ, zero, suc, ◌+◌, ◌≤◌, max, nat_lt, ◌==◌, if◌then◌else◌, List, [], ◌∷◌, ◌++◌, Option, Some, None, slice_get, length}
use Rattle.nv_base.specs.Words.{atom_vars, prim_vars}
use Rattle.nv_base.specs.Measures.{operands_wide, let_wide, entry_wide}
pub use Rattle.nv_base.specs.Measures.{Widths}
use Rattle.flat_ir.specs.declared.flat.Flat.{Flat}
use Rattle.flat_ir.specs.declared.flat.Flat.TheVariants.{Let', Fetch', Store', If', Bind', Call, Raise, Try', Give}
use Rattle.flat_ir.specs.declared.flat.FlatFun.{FlatFun}
use Rattle.nv_base.specs.Sets.{different, without, all_vars}

-- the live variables where code begins: those that it uses and doesn't define
abbrev pub live : Flat → List ℕ
live (Let' x a q t) = prim_vars a ++ without (live t) (x ∷ [])
live (Fetch' m xs a q t) = atom_vars a ++ without (live t) xs.items
live (Store' m a bs q t) = all_vars (a ∷ bs.items) ++ live t
live (If' c a b q t r u) = all_vars (a ∷ b ∷ []) ++ (live t ++ live u)
live (Bind' xs q t r u) = live t ++ without (live u) xs.items
live (Call f bs) = all_vars bs.items
live (Raise k bs) = all_vars bs.items
live (Try' q t k xs r u) = live t ++ without (live u) xs.items
live (Give bs) = all_vars bs.items

-- ---- widths of places

-- of a call beside its operands, where so many variables are held outside: a function of an earlier group is held with them, and then its
-- results are. The functions of the own group take over, since nothing is held outside there.
abbrev pub call_wide : Widths → ℕ → ℕ → Option FlatFun → ℕ
call_wide w own held (Some f) = if nat_lt f.group own then held + max (w f.group) (f.results + 1) else 0
call_wide w own held None = 0

-- the greatest width of a place of code in a function of this group, where these variables are live outside of it
abbrev pub code_wide : List FlatFun → Widths → ℕ → List ℕ → Flat → ℕ
code_wide funs w own outside (Let' x a q t) = max (let_wide (outside ++ (prim_vars a ++ without (live t) (x ∷ [])))) (code_wide funs w own outside t)
code_wide funs w own outside (Fetch' m xs a q t) =
    max (max (operands_wide (outside ++ without (live t) xs.items) (a ∷ [])) (different (outside ++ (xs.items ++ live t)))) (code_wide funs w own outside t)
code_wide funs w own outside (Store' m a bs q t) = max (operands_wide (outside ++ live t) (a ∷ bs.items)) (code_wide funs w own outside t)
code_wide funs w own outside (If' c a b q t r u) =
    max (operands_wide (outside ++ (live t ++ live u)) (a ∷ b ∷ [])) (max (code_wide funs w own outside t) (code_wide funs w own outside u))
code_wide funs w own outside (Bind' xs q t r u) =
    let held = outside ++ without (live u) xs.items in
    max (max (code_wide funs w own held t) (entry_wide held (length xs.items))) (code_wide funs w own outside u)
code_wide funs w own outside (Call f bs) = max (operands_wide outside bs.items) (call_wide w own (different outside) (slice_get funs f))
code_wide funs w own outside (Raise k bs) = operands_wide outside bs.items
code_wide funs w own outside (Try' q t k xs r u) =
    let held = outside ++ without (live u) xs.items in
    max (max (code_wide funs w own held t) (entry_wide held (length xs.items))) (code_wide funs w own outside u)
code_wide funs w own outside (Give bs) = operands_wide outside bs.items

-- ---- functions, groups and programs

-- of a function: its parameters, and its body with nothing live outside
abbrev pub function_wide : List FlatFun → Widths → FlatFun → ℕ
function_wide funs w f = max (entry_wide [] (length f.params.items)) (code_wide funs w f.group [] f.body)

-- the greatest of the functions of a group, among some functions of the program
abbrev pub greatest_wide : List FlatFun → Widths → ℕ → List FlatFun → ℕ
greatest_wide funs w group [] = 0
greatest_wide funs w group (f ∷ fs) = max (if f.group == group then function_wide funs w f else 0) (greatest_wide funs w group fs)

-- the widths of groups by a recursion of N steps, each of which is a call of an earlier group. A group's number and 1 are enough
-- for it, since each such call leads to a lower number.
abbrev pub widths_within : List FlatFun → ℕ → Widths
widths_within funs zero group = 0
widths_within funs (suc n) group = greatest_wide funs (widths_within funs n) group funs

abbrev pub group_wide : List FlatFun → Widths
group_wide funs group = widths_within funs (suc group) group

-- of a program: that of the group of main, which has this number among the functions
abbrev pub main_wide : List FlatFun → Option FlatFun → ℕ
main_wide funs (Some f) = group_wide funs f.group
main_wide funs None = 0

abbrev pub wide : List FlatFun → ℕ → ℕ
wide funs main = main_wide funs (slice_get funs main)

-- ---- bounds without a recursion over groups

-- each function is at most as wide as this number of its group, where every call counts the number of the called group
pub record AreWidths (funs : List FlatFun) (w : Widths) : Type 0 where
  pub by : (i : ℕ) (f : FlatFun) → slice_get funs i ≡ Some f → function_wide funs w f ≤ w f.group
