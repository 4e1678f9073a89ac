-- Marks of the addresses that a run alone reads and writes, and the addresses that several runs share.
use Rattle.std.specs.Prelude.{◌≡◌, ℕ, ◌<◌, ◌⊎◌, ◌↔◌, true, List, [], ◌∷◌, Some, length, slice_get, ⊤}
use Rattle.nv_base.specs.declared.term.Mem.{Mem}
use Rattle.nv_base.specs.declared.term.Mem.TheVariants.{Sram, Sdram, Scratch}
use Rattle.nv_base.specs.Memories.{Memories, first_word, words_at}
use Rattle.uc_isa.specs.Code.{CodeView}
use Rattle.uc_contexts.specs.declared.alone.Marks.{Marks}
use Rattle.uc_contexts.specs.Alone.{IsCommon}
use Rattle.uc_contexts.specs.Footprints.{Isolated, Reads, Writes}
use Rattle.uc_contexts.specs.Sets.{has, within}

-- the address is marked as read, and as written
abbrev pub IsMarkedRead : Marks → Mem → ℕ → Type 0
IsMarkedRead f m a = has (within m f.read) a ≡ true

abbrev pub IsMarkedWritten : Marks → Mem → ℕ → Type 0
IsMarkedWritten f m a = has (within m f.written) a ≡ true

-- there are marks for all addresses of these memories, and no more
abbrev pub Fit : Marks → Memories → Type 0
Fit f p = (m : Mem) → (length (words_at m p) ≡ first_word m (within m f.read).size) × (length (words_at m p) ≡ first_word m (within m f.written).size)

-- what the run reads and writes is marked, and nothing else
pub record IsFootprint (c : CodeView) (p : Memories) (run : Isolated) (f : Marks) : Type 0 where
  pub read : (m : Mem) (a : ℕ) → IsMarkedRead f m a ↔ Reads c p run m a
  pub written : (m : Mem) (a : ℕ) → IsMarkedWritten f m a ↔ Writes c p run m a
  pub fit : Fit f p

-- one run's marks say that it reads or writes the address
abbrev pub IsMarked : Marks → Mem → ℕ → Type 0
IsMarked f m a = IsMarkedRead f m a ⊎ IsMarkedWritten f m a

-- some run with another number than this one reads or writes the address
abbrev pub IsMarkedByOther : List Marks → ℕ → Mem → ℕ → Type 0
IsMarkedByOther footprints writer m a = (j : ℕ) × (f : Marks) × ¬ (writer ≡ j) × (slice_get footprints j ≡ Some f) × IsMarked f m a

-- one run's marks say that it writes the address, and another's that it reads or writes it
abbrev pub IsShared : List Marks → Mem → ℕ → Type 0
IsShared footprints m a = (i : ℕ) × (f : Marks) × (slice_get footprints i ≡ Some f) × IsMarkedWritten f m a × IsMarkedByOther footprints i m a

-- memories come in this order
abbrev pub rank : Mem → ℕ
rank Sram = 0
rank Sdram = 1
rank Scratch = 2

-- the first address of a memory comes before the second one of another, or of the same
abbrev pub Precedes : Mem → ℕ → Mem → ℕ → Type 0
Precedes m a k b = (rank m < rank k) ⊎ ((m ≡ k) × (a < b))

-- the first address that is shared
pub record IsFirstShared (footprints : List Marks) (m : Mem) (a : ℕ) : Type 0 where
  pub shared : IsShared footprints m a
  pub first : (k : Mem) (b : ℕ) → Precedes k b m a → ¬ IsShared footprints k b

-- the first address that one run writes and another reads or writes
pub record IsFirstCommon (c : CodeView) (p : Memories) (runs : List Isolated) (m : Mem) (a : ℕ) : Type 0 where
  pub common : IsCommon c p runs m a
  pub first : (k : Mem) (b : ℕ) → Precedes k b m a → ¬ IsCommon c p runs k b

-- the marks of each run, in order
abbrev pub AreFootprints : CodeView → Memories → List Isolated → List Marks → Type 0
AreFootprints c p [] [] = ⊤
AreFootprints c p [] (f ∷ footprints) = ⊥
AreFootprints c p (run ∷ runs) [] = ⊥
AreFootprints c p (run ∷ runs) (f ∷ footprints) = IsFootprint c p run f × AreFootprints c p runs footprints
