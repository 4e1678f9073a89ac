-- What steps, put before code, add to each recursion on code.
use Rattle.std.specs.Prelude.{ℕ, ◌+◌, max, Bool, true, false, ◌&&◌, List, [], ◌∷◌, ◌++◌, length}
use Rattle.nv_base.specs.Words.{atom_vars, prim_vars}
use Rattle.flat_ir.specs.declared.flat.FlatFun.{FlatFun}
use Rattle.flat_ir.specs.declared.spine.Step.{Step}
use Rattle.flat_ir.specs.declared.spine.Step.TheVariants.{Let, Fetch, Store, Bind}
use Rattle.nv_base.specs.Access.{is_known, all_known, is_primitive, can_move, is_address}
use Rattle.flat_ir.specs.Formed.{is_formed, defined, raised}
use Rattle.nv_base.specs.Sets.{without, all_vars, different}
use Rattle.nv_base.specs.Measures.{operands_wide, let_wide, entry_wide, Bulk, a_label, a_node, both}
use Rattle.flat_ir.specs.Wide.{live, Widths, code_wide}
use Rattle.flat_ir.specs.Bulk.{Bulks, code_bulk}

-- ---- formed: the variables that a step defines, and what holds of the step alone

abbrev pub new_vars : Step → List ℕ
new_vars (Let x a) = x ∷ []
new_vars (Fetch m xs a) = xs.items
new_vars (Store m a bs) = []
new_vars (Bind xs t) = xs.items

-- what is known behind steps
abbrev pub known_behind : List ℕ → List Step → List ℕ
known_behind known [] = known
known_behind known (s ∷ ss) = known_behind (new_vars s ++ known) ss

abbrev pub step_formed : List FlatFun → ℕ → List ℕ → Step → Bool
step_formed funs own known (Let x a) = is_primitive known a
step_formed funs own known (Fetch m xs a) = is_known known a && (can_move m (length xs.items) && is_address m a (length xs.items))
step_formed funs own known (Store m a bs) = is_known known a && (all_known known bs.items && (can_move m (length bs.items) && is_address m a (length bs.items)))
step_formed funs own known (Bind xs t) = is_formed funs own false (length xs.items) known t

abbrev pub steps_formed : List FlatFun → ℕ → List ℕ → List Step → Bool
steps_formed funs own known [] = true
steps_formed funs own known (s ∷ ss) = step_formed funs own known s && steps_formed funs own (new_vars s ++ known) ss

abbrev pub step_defined : Step → List ℕ
step_defined (Let x a) = x ∷ []
step_defined (Fetch m xs a) = xs.items
step_defined (Store m a bs) = []
step_defined (Bind xs t) = defined t ++ xs.items

abbrev pub steps_defined : List Step → List ℕ
steps_defined [] = []
steps_defined (s ∷ ss) = step_defined s ++ steps_defined ss

abbrev pub step_raised : Step → List (ℕ × ℕ)
step_raised (Let x a) = []
step_raised (Fetch m xs a) = []
step_raised (Store m a bs) = []
step_raised (Bind xs t) = raised t

abbrev pub steps_raised : List Step → List (ℕ × ℕ)
steps_raised [] = []
steps_raised (s ∷ ss) = step_raised s ++ steps_raised ss

-- ---- the live variables before a step, where these are live after it

abbrev pub step_live : Step → List ℕ → List ℕ
step_live (Let x a) behind = prim_vars a ++ without behind (x ∷ [])
step_live (Fetch m xs a) behind = atom_vars a ++ without behind xs.items
step_live (Store m a bs) behind = all_vars (a ∷ bs.items) ++ behind
step_live (Bind xs t) behind = live t ++ without behind xs.items

abbrev pub steps_live : List Step → List ℕ → List ℕ
steps_live [] behind = behind
steps_live (s ∷ ss) behind = step_live s (steps_live ss behind)

-- ---- the greatest width of a step's places, where some variables are live outside of the code and some after the step

abbrev pub step_wide : List FlatFun → Widths → ℕ → List ℕ → Step → List ℕ → ℕ
step_wide funs w own outside (Let x a) behind = let_wide (outside ++ (prim_vars a ++ without behind (x ∷ [])))
step_wide funs w own outside (Fetch m xs a) behind = max (operands_wide (outside ++ without behind xs.items) (a ∷ [])) (different (outside ++ (xs.items ++ behind)))
step_wide funs w own outside (Store m a bs) behind = operands_wide (outside ++ behind) (a ∷ bs.items)
step_wide funs w own outside (Bind xs t) behind =
    let held = outside ++ without behind xs.items in max (code_wide funs w own held t) (entry_wide held (length xs.items))

-- the same of steps, and of code after them that is so wide
abbrev pub steps_wide : List FlatFun → Widths → ℕ → List ℕ → List Step → List ℕ → ℕ → ℕ
steps_wide funs w own outside [] behind n = n
steps_wide funs w own outside (s ∷ ss) behind n = max (step_wide funs w own outside s (steps_live ss behind)) (steps_wide funs w own outside ss behind n)

-- ---- bulk

abbrev pub step_bulk : List FlatFun → Bulks → ℕ → Step → Bulk
step_bulk funs w own (Let x a) = a_node 1 2
step_bulk funs w own (Fetch m xs a) = a_node (length xs.items) 1
step_bulk funs w own (Store m a bs) = a_node 0 (1 + length bs.items)
step_bulk funs w own (Bind xs t) = both a_label (code_bulk funs w own false t)

-- of steps, and of code after them that has this bulk
abbrev pub steps_bulk : List FlatFun → Bulks → ℕ → List Step → Bulk → Bulk
steps_bulk funs w own [] b = b
steps_bulk funs w own (s ∷ ss) b = both (step_bulk funs w own s) (steps_bulk funs w own ss b)
