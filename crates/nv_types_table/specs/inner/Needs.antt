-- The need of a block's parts, by the places where its variables are written.
use Rattle.std.specs.Prelude.{ℕ, ◌+◌, ◌-◌, ◌<◌, ◌↔◌, IsTrue, IsSomeAnd, max, drop, List, [], ◌∷◌, ◌++◌, Option, None, Some, nat_lt, if◌then◌else◌, option_map}
use Rattle.std.specs.Borrow.{Bor}
use Rattle.std.specs.List.{list_any}
use Rattle.nv_ast.specs.declared.tree.Pat.{Pat}
use Rattle.nv_ast.specs.PatternView.{pattern_tree}
use Rattle.nv_ast.specs.Tests.{is_among, look_up}
use Rattle.nv_ast.specs.Scope.{names_in}
use Rattle.nv_ast.specs.Sizes.{pending}
use Rattle.nv_types_table.specs.inner.Cells.{still}
use Rattle.nv_types_table.specs.declared.needs.Step.{Step}
use Rattle.nv_types_table.specs.declared.needs.OpenNeed.{OpenNeed}

-- of a let its names and the words of its value
abbrev pub pattern_lets : Option Pat → ℕ → List (List (List ℕ) × ℕ)
pattern_lets None n = []
pattern_lets (Some p) n = (names_in (pattern_tree p), n) ∷ []

-- the let of a step
abbrev pub step_lets : Step → List (List (List ℕ) × ℕ)
step_lets step = pattern_lets (option_map (λ (p : Bor Pat). p.now) step.pattern) step.words

-- the words that are held for what is written from a place on
abbrev pub held_for : List OpenNeed → ℕ → ℕ
held_for [] at = 0
held_for (h ∷ hs) at = (if nat_lt at h.until then h.words else 0) + held_for hs at

-- for each of the variables that are written from a place on, the place after its last one
abbrev pub IsEnds : ℕ → List (List ℕ) → List (List ℕ × ℕ) → Type 0
IsEnds first xs ends = (x : List ℕ) (at : ℕ) → IsTrue (is_among x (drop (at - first) xs)) ↔ IsSomeAnd (look_up x ends) (λ end. at < end)

-- the place after the last one where some of these names is written, or 0
abbrev pub IsEnd : ℕ → List (List ℕ) → List (List ℕ) → ℕ → Type 0
IsEnd first xs names end = (at : ℕ) → IsTrue (list_any (λ x. is_among x (drop (at - first) xs)) names) ↔ (at < end)

-- the words of the lets of which some name is written from a place on, where `xs` are written from `first` on
abbrev pub held_at : ℕ → List (List ℕ) → List (List (List ℕ) × ℕ) → ℕ → ℕ
held_at first xs lets at = still (pending lets (drop (at - first) xs))

-- the greatest need of the steps of a block after these lets, and of its tail
abbrev pub block_needs : List (List ℕ) → ℕ → List (List (List ℕ) × ℕ) → List Step → ℕ → ℕ → ℕ
block_needs xs first lets [] last need = still (held_at first xs lets last + need)
block_needs xs first lets (step ∷ steps) last need =
    max (still (held_at first xs lets step.before + step.need))
    (block_needs xs first (lets ++ step_lets step) steps last need)
