-- How far a run has come, in itself and in the run of another meaning.
use Rattle.std.specs.Prelude.{◌≡◌, ℕ, suc, ◌≤◌, ◌⊎◌, [], ◌∷◌, ◌++◌}
use Rattle.nv_base.specs.declared.outcome.Outcome.TheVariants.{Going}
use Rattle.nv_base.specs.declared.outcome.Write.{Write}
use Rattle.nv_base.specs.Memories.{Memories}
use Rattle.nv_base.specs.Meanings.{FullOutcome, Meaning, IsPrefix, seen, source_memories, left_by}

-- the first is seen as the second, or is an earlier moment of such a run: it goes on, and its writes are the first of the second's
abbrev pub Before : FullOutcome → FullOutcome → Type 0
Before f g = (seen f ≡ seen g) ⊎ ((f.outcome ≡ Going) × IsPrefix (seen f).writes (seen g).writes)

-- the second meaning gets at least as far as the first
abbrev pub IsSimulatedBy : Meaning → Meaning → Type 0
IsSimulatedBy m n = (i : ℕ) → (j : ℕ) × Before (m i) (n j)

-- with more steps a run gets at least as far
abbrev pub IsMonotone : Meaning → Type 0
IsMonotone m = (i j : ℕ) → i ≤ j → Before (m i) (m j)

-- the second meaning comes to where the first is, and where the first goes on it takes at least as many steps
abbrev pub IsMatchedBy : Meaning → Meaning → Type 0
IsMatchedBy m n = (i : ℕ) → (j : ℕ) × ((m i).outcome ≡ Going → i ≤ j) × (seen (n j) ≡ seen (m i))

-- the second is the first with no write more, or with one more after which it goes on
abbrev pub OneMore : FullOutcome → FullOutcome → Type 0
OneMore f g = (g.writes ≡ f.writes) ⊎ ((w : Write) × (g.writes ≡ f.writes ++ w ∷ []) × (g.outcome ≡ Going))

-- a run that goes on at first, has written nothing then, and writes at most once a step
pub record IsStepwise (m : Meaning) : Type 0 where
  pub start : (m 0).outcome ≡ Going
  pub unwritten : (m 0).writes ≡ []
  pub steps : (i : ℕ) → OneMore (m i) (m (suc i))

-- the memories are always the first ones after the writes so far
abbrev pub FollowsAll : Memories → Meaning → Type 0
FollowsAll p m = (i : ℕ) → (m i).packet ≡ left_by (m i).writes p

-- the memories that are seen are always the first ones after the writes that are seen
abbrev pub FollowsWrites : Memories → Meaning → Type 0
FollowsWrites p m = (i : ℕ) → (seen (m i)).packet ≡ source_memories (left_by (seen (m i)).writes p)
