-- What is saved under names, in which order, and what is printed.
use Rattle.std.specs.Prelude.{◌≡◌, ℕ, not, List, [], ◌∷◌, ◌++◌, Contains, map, filter, flat_map, string_bytes}
use Rattle.nv_outside.specs.Calls.{Call, Save}
use Rattle.nv_outside.specs.Causes.{Rose}
use Rattle.nv_outside.specs.Holding.{Holding, Replaced}
use Rattle.nova_show.specs.Paths.{is_standard}
use Rattle.nova_show.specs.declared.saving.Saving.{Saving}

abbrev pub name_of : Saving → List ℕ
name_of saving = string_bytes saving.name

-- those that are saved under their names, and not printed
abbrev pub files_of : List Saving → List Saving
files_of savings = filter (λ s. not (is_standard (name_of s))) savings

-- their saves
abbrev pub saves_of : List Saving → List Call
saves_of savings = map (λ s. Save (name_of s)) (files_of savings)

-- the bytes of the others, which are printed
abbrev pub printed_of : List Saving → List ℕ
printed_of savings = flat_map (λ s. s.bytes.items) (filter (λ s. is_standard (name_of s)) savings)

-- all of these were saved under their names, in this order, and nothing else changed
abbrev pub AreSaved : List Saving → Holding → Holding → Type 0
AreSaved [] old new = new ≡ old
AreSaved (s ∷ ss) old new = (between : Holding) × Replaced old between (name_of s) s.bytes.items × AreSaved ss between new

-- the save of one of these failed
abbrev pub IsUnsaved : List Saving → (List ℕ → ℕ) → (List ℕ → ℕ) → Type 0
IsUnsaved savings before now = (s : Saving) × Contains savings s × Rose (before (name_of s)) (now (name_of s))

-- one file was appended, of this name with these bytes
abbrev pub IsAppended : List Saving → List Saving → List ℕ → List ℕ → Type 0
IsAppended old new name bytes = (s : Saving) × (name_of s ≡ name) × (s.bytes.items ≡ bytes) × (new ≡ old ++ s ∷ [])
