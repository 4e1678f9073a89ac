-- The first fault of a layout text.
use Rattle.std.specs.Prelude.{◌≡◌, ℕ, List, ◌∷◌}
use Rattle.nv_layout.specs.declared.error.LayoutError.{LayoutError}
use Rattle.nv_layout.specs.declared.error.LayoutError.TheVariants.{NoMemory, Fault}

-- the kind of the first of some faults; memory exhaustion says nothing of them
abbrev pub IsFirstOf : List ℕ → LayoutError → Type 0
IsFirstOf faults NoMemory = Unit {0}
IsFirstOf faults (Fault k) = (others : List ℕ) × (faults ≡ k ∷ others)
