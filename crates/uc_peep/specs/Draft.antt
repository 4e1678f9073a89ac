-- Work on code: places are replaced, and some are gone.
use Rattle.std.specs.Prelude.{◌≡◌, ℕ, suc, ◌+◌, ◌<◌, ◌≤◌, ◌⊎◌, Bool, true, false, List, Some, None, length, take, drop, slice_get, slice_index, slice_index_or}
use Rattle.nv_base.specs.Memories.{Memories}
use Rattle.uc_isa.specs.Moves.{moves}
use Rattle.uc_isa.specs.declared.engine.Engine.{Engine}
use Rattle.uc_isa.specs.declared.instruction.Instr.{Instr}
use Rattle.uc_peep.specs.declared.draft.Turn.{Turn}
use Rattle.uc_peep.specs.declared.draft.Turn.TheVariants.{Stays, Changed, Stops}
use Rattle.uc_peep.specs.Kept.{is_gone, kept_of}
use Rattle.uc_peep.specs.Liveness.{Covers, IsClosed}
use Rattle.uc_peep.specs.Rewrites.{Answers, Rewrites}
use Rattle.uc_peep.specs.Window.{IsPinned, filler}
use Rattle.uc_isa.specs.Alike.{Begins, RunsAlike}
use Rattle.uc_isa.specs.Program.{IsProgram}
use Rattle.uc_isa.specs.Starts.{IsLabelStart}
use Rattle.uc_isa.specs.StraightCode.{IsEntered, IsStraight}

-- exactly the places that are as P says are marked
abbrev pub AreMarked : List Bool → (ℕ → Type 0) → Type 0
AreMarked marks P = (y : ℕ) → (slice_index_or marks y false ≡ true → P y) × (P y → slice_index_or marks y false ≡ true)

-- the marks of a code: where branches go, and where labels start
pub record IsMarks (code : List Instr) (starts : List ℕ) (entered started : List Bool) : Type 0 where
  pub are_entered : AreMarked entered (IsEntered code)
  pub are_started : AreMarked started (IsLabelStart starts)

-- the place is straight code that is still there
pub record IsOpen (code : List Instr) (gone : List Bool) (x : ℕ) : Type 0 where
  pub instruction : Instr
  pub there : slice_get code x ≡ Some instruction
  pub straight : IsStraight instruction
  pub kept : is_gone gone x ≡ false

-- nothing leads to the place but the one before it
abbrev pub IsFallThrough : List Bool → List Bool → ℕ → Type 0
IsFallThrough entered started y = (slice_index_or entered y false ≡ false) × (slice_index_or started y false ≡ false)

-- the places from p up to an end are open, and only the place before leads to each but p
abbrev pub AreOpen : List Instr → List Bool → List Bool → List Bool → ℕ → ℕ → Type 0
AreOpen code gone entered started p end' = (x : ℕ) → p ≤ x → x < end' → IsOpen code gone x × (p < x → IsFallThrough entered started x)

-- where a label or the run begins at p, the place behind is kept and no label starts there; where a label begins, no branch leads there
abbrev pub IsEndClear : List Bool → List Bool → List Bool → ℕ → ℕ → Type 0
IsEndClear gone entered started p end' = (p ≡ 0) ⊎ (slice_index_or started p false ≡ true)
    → (slice_index_or started p false ≡ true → slice_index_or entered end' false ≡ false) × (slice_index_or started end' false ≡ false) × (is_gone gone end' ≡ false)

-- k instructions from p on may be replaced
pub record MayReplace (code : List Instr) (gone entered started : List Bool) (p k : ℕ) : Type 0 where
  pub inside : p + k < length code
  pub open_ : AreOpen code gone entered started p (p + k)
  pub clear_end : IsEndClear gone entered started p (p + k)

-- the second code is the first with others in the place of k instructions from p on, and fillers for those that are gone
pub record IsPut (p k : ℕ) (shorter code code' : List Instr) (gone gone' : List Bool) : Type 0 where
  pub size : length code' ≡ length code
  pub size_gone : length gone' ≡ length gone
  pub outside : (x : ℕ) → (x < p) ⊎ (p + k ≤ x) → (slice_get code' x ≡ slice_get code x) × (is_gone gone' x ≡ is_gone gone x)
  pub first : (d : ℕ) → d < k → d < length shorter → (slice_get code' (p + d) ≡ slice_get shorter d) × (is_gone gone' (p + d) ≡ is_gone gone (p + d))
  pub rest : (d : ℕ) → d < k → length shorter ≤ d → (slice_get code' (p + d) ≡ Some (filler (p + d))) × (is_gone gone' (p + d) ≡ true)

-- the draft does what the code does, step by step; at places that are gone it only goes on, and what is not straight code is as it was
pub record IsDraft (code : List Instr) (starts : List ℕ) (draft : List Instr) (gone : List Bool) : Type 0 where
  pub size : length draft ≡ length code
  pub size_gone : length gone ≡ length code
  pub lawful : IsProgram draft
  pub alike : (e : Engine) (ms : Memories) → Begins e ms → RunsAlike code draft ms e e
  pub fillers : (x : ℕ) → is_gone gone x ≡ true → (slice_get draft x ≡ Some (filler x)) × (suc x < length code)
  pub old : (x : ℕ) (i : Instr) → is_gone gone x ≡ false → ¬ IsStraight i → slice_get draft x ≡ Some i → slice_get code x ≡ Some i
  pub stays : (x : ℕ) (i : Instr) → ¬ IsStraight i → slice_get code x ≡ Some i → (slice_get draft x ≡ Some i) × (is_gone gone x ≡ false)
  pub apart : (s y : ℕ) → IsPinned starts s → s < y → y < length code → (IsLabelStart starts s × IsEntered code y) ⊎ IsLabelStart starts y → (z : ℕ) × (s ≤ z) × (z < y) × (is_gone gone z ≡ false)
  pub moves : (ws : List ℕ) → moves draft starts ws ≤ moves code starts ws

-- the sets of k places from p on are what their instructions need, and the others are as they were
pub record IsRefreshed (code : List Instr) (p k : ℕ) (sets sets' : List ℕ) : Type 0 where
  pub size : length sets' ≡ length sets
  pub outside : (x : ℕ) → (x < p) ⊎ (p + k ≤ x) → slice_index sets' x ≡ slice_index sets x
  pub inside : (x : ℕ) (i : Instr) → p ≤ x → x < p + k → slice_get code x ≡ Some i → Covers i x sets' (slice_index sets' x)

-- no answer is due at the windows from a place on
abbrev pub AreSettledFrom : Answers → List Instr → List Bool → List Bool → List Bool → List ℕ → ℕ → Type 0
AreSettledFrom answers code gone entered started sets from = (q k : ℕ) → from ≤ q → q < length code → 1 ≤ k → k < 5 → MayReplace code gone entered started q k → answers (take k (drop q code)) (slice_index sets (q + k)) None

-- a pass over code has come to a place: all before it is untouched
pub record IsPassing (answers : Answers) (code : List Instr) (starts : List ℕ) (entered started gone0 : List Bool) (sets0 : List ℕ) (draft : List Instr) (gone : List Bool) (sets : List ℕ) (changed : Bool) (p : ℕ) : Type 0 where
  pub marks : IsMarks code starts entered started
  pub drafted : IsDraft code starts draft gone
  pub rewritten : Rewrites answers code (kept_of gone draft)
  pub size_sets : length sets ≡ length code
  pub untouched : (x : ℕ) → x < p → is_gone gone x ≡ false
  pub closed : IsClosed draft sets
  pub fewer : changed ≡ true → (x : ℕ) × (is_gone gone x ≡ true)
  pub same : changed ≡ false → (draft ≡ code) × (gone ≡ gone0) × (sets ≡ sets0)
  pub settled : changed ≡ false → AreSettledFrom answers code gone0 entered started sets0 p

-- what a pass is to give
pub record IsPassed (answers : Answers) (code : List Instr) (starts : List ℕ) (entered started gone0 : List Bool) (sets0 : List ℕ) (draft : List Instr) (gone : List Bool) (changed : Bool) : Type 0 where
  pub drafted : IsDraft code starts draft gone
  pub rewritten : Rewrites answers code (kept_of gone draft)
  pub fewer : changed ≡ true → (x : ℕ) × (is_gone gone x ≡ true)
  pub same : changed ≡ false → draft ≡ code
  pub settled : changed ≡ false → AreSettledFrom answers code gone0 entered started sets0 0

-- what a turn at a place leaves, by its kind
abbrev pub AfterTurn : Turn → Answers → List Instr → List ℕ → List Bool → List Bool → List Bool → List ℕ → List Instr → List Bool → List ℕ → Bool → ℕ → Type 0
AfterTurn Stays answers code starts entered started gone0 sets0 draft gone sets changed p = IsPassing answers code starts entered started gone0 sets0 draft gone sets changed p
AfterTurn Changed answers code starts entered started gone0 sets0 draft gone sets changed p = IsPassing answers code starts entered started gone0 sets0 draft gone sets true p
AfterTurn Stops answers code starts entered started gone0 sets0 draft gone sets changed p = IsDraft code starts draft gone × ((x : ℕ) × (is_gone gone x ≡ true)) × Rewrites answers code (kept_of gone draft)
