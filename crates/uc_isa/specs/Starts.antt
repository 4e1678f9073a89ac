-- Where the labels of code start.
use Rattle.std.specs.Prelude.{◌≡◌, ℕ, ◌-◌, ◌<◌, List, All, Some, true, length, nat_eq, slice_get, slice_index}
use Rattle.std.specs.List.{list_any}
use Rattle.uc_isa.specs.Lawful.{IsLast}
use Rattle.uc_isa.specs.declared.instruction.Instr.{Instr}

-- some label starts at the place
abbrev pub IsLabelStart : List ℕ → ℕ → Type 0
IsLabelStart starts y = list_any (λ s. nat_eq y s) starts ≡ true

-- all starts are inside
abbrev pub AreInside : List Instr → List ℕ → Type 0
AreInside code starts = All (λ s. s < length code) starts

-- the starts begin with 0 and rise, and the engine never goes on to a later one from the place before it
pub record HasShape (code : List Instr) (starts : List ℕ) : Type 0 where
  pub first : (s : ℕ) → slice_get starts 0 ≡ Some s → s ≡ 0
  pub rises : (j k : ℕ) → j < k → k < length starts → slice_index starts j < slice_index starts k
  pub before : (k : ℕ) → 0 < k → k < length starts → (i : Instr) × (slice_get code (slice_index starts k - 1) ≡ Some i) × IsLast i

-- the starts of so many labels: one a label, with that shape, all inside, and the last instruction is a halt or a branch that
-- is always taken
pub record AreStarts (labels : ℕ) (code : List Instr) (starts : List ℕ) : Type 0 where
  pub count : length starts ≡ labels
  pub shape : HasShape code starts
  pub inside : AreInside code starts
  pub end_ : (i : Instr) → slice_get code (length code - 1) ≡ Some i → IsLast i
