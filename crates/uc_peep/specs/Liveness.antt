-- What is live, by sets that each instruction hands on to the place before it.
use Rattle.std.specs.Prelude.{◌≡◌, ℕ, ◌<◌, ◌^◌, ◌⊎◌, Bool, true, false, List, length, sum, Some, slice_get, slice_index}
use Rattle.uc_isa.specs.declared.instruction.Instr.{Instr}
use Rattle.uc_peep.specs.Sets.{has}
use Rattle.uc_isa.specs.Resources.{IsNext, IsResource, Live, Resource, reads, writes}

-- exactly what is live at a place is in the set
abbrev pub IsLiveAt : List Instr → ℕ → ℕ → Type 0
IsLiveAt code x set = (s : Resource) → IsResource s → ((has set s ≡ true → Live code s x) × (Live code s x → has set s ≡ true))

-- exactly what is in the set of a place after the instruction at x
pub record IsLiveAfter (i : Instr) (x : ℕ) (sets : List ℕ) (set : ℕ) : Type 0 where
  pub all : (s : Resource) (y : ℕ) → IsNext i x y → has (slice_index sets y) s ≡ true → has set s ≡ true
  pub only : (s : Resource) → has set s ≡ true → (y : ℕ) × IsNext i x y × (has (slice_index sets y) s ≡ true)

-- all that an instruction at x needs is in the set: what it reads, and what is in the set of a next place and not written
pub record Covers (i : Instr) (x : ℕ) (sets : List ℕ) (set : ℕ) : Type 0 where
  pub needs : (s : Resource) → IsResource s → reads i s ≡ true → has set s ≡ true
  pub passes : (s : Resource) (y : ℕ) → IsResource s → writes i s ≡ false → IsNext i x y → has (slice_index sets y) s ≡ true → has set s ≡ true

-- something that is in the set, and why
abbrev pub IsNeeded : Instr → ℕ → List ℕ → Resource → Type 0
IsNeeded i x sets s = (reads i s ≡ true) ⊎ ((y : ℕ) × IsNext i x y × (writes i s ≡ false) × (has (slice_index sets y) s ≡ true))

-- exactly what an instruction at x needs is in the set
pub record IsLiveBefore (i : Instr) (x : ℕ) (sets : List ℕ) (set : ℕ) : Type 0 where
  pub covers : Covers i x sets set
  pub only : (s : Resource) → IsResource s → has set s ≡ true → IsNeeded i x sets s

-- the set of each place has all that its instruction needs
abbrev pub IsClosed : List Instr → List ℕ → Type 0
IsClosed code sets = (x : ℕ) (i : Instr) → slice_get code x ≡ Some i → Covers i x sets (slice_index sets x)

-- what is in a set is live at its place
abbrev pub IsSound : List Instr → List ℕ → Type 0
IsSound code sets = (x : ℕ) (s : Resource) → IsResource s → has (slice_index sets x) s ≡ true → Live code s x

-- the sets are numbers of 128 bits
abbrev pub AreSmall : List ℕ → Type 0
AreSmall sets = (x : ℕ) → slice_index sets x < 2 ^ 128

-- what one update gives
pub record IsUpdated (code : List Instr) (sets sets' : List ℕ) (x : ℕ) (rose : Bool) : Type 0 where
  pub size : length sets' ≡ length sets
  pub sound : IsSound code sets → IsSound code sets'
  pub small : AreSmall sets → AreSmall sets'
  pub rises : rose ≡ true → sum sets < sum sets'
  pub covers : rose ≡ false → (sets' ≡ sets) × ((i : Instr) → slice_get code x ≡ Some i → Covers i x sets (slice_index sets x))

-- the sets are still sound
pub record IsGrown (code : List Instr) (sets sets' : List ℕ) : Type 0 where
  pub size : length sets' ≡ length sets
  pub sound : IsSound code sets → IsSound code sets'
  pub small : AreSmall sets → AreSmall sets'
