-- Moves that are still to be done, in a table by the numbers of their targets.
use Rattle.std.specs.Prelude.{◌≡◌, ◌≢◌, ℕ, ◌+◌, ◌*◌, ◌<◌, ◌≤◌, ◌⊎◌, Bool, true, false, nat_eq, Option, Some, None, is_some, List, [], ◌∷◌, ◌++◌, length, slice_index, slice_index_or, count_by, if◌then◌else◌, take}
use Rattle.place_plan.specs.declared.place.Place.{Place}
use Rattle.place_plan.specs.declared.place.Place.TheVariants.{A, B, L, LD, S, SD, Slot}
use Rattle.place_plan.specs.Places.{same_place}
use Rattle.ucode_emit.specs.Moves.{Move, Words, temporary, one_by_one, all_at_once, StandFor}

-- the number of a place
abbrev pub number : Place → ℕ
number (A k) = 7 * k
number (B k) = 7 * k + 1
number (L k) = 7 * k + 2
number (LD k) = 7 * k + 3
number (S k) = 7 * k + 4
number (SD k) = 7 * k + 5
number (Slot k) = 7 * k + 6

-- so many numbers there are
abbrev pub numbers : ℕ
numbers = 1792

-- the sources of pending moves, by the numbers of their targets
abbrev pub Table : Type 0
Table = List (Option Place)

-- the source of the pending move into the place of a number
abbrev pub source_at : Table → ℕ → Option Place
source_at src k = slice_index_or src k None

-- a move into the place of this number is pending
abbrev pub IsPending : Table → ℕ → Type 0
IsPending src k = is_some (source_at src k) ≡ true

-- whether a source is the place of this number
abbrev pub reads : ℕ → Option Place → Bool
reads k None = false
reads k (Some p) = nat_eq (number p) k

-- how many pending moves read the place of this number
abbrev pub readings : Table → ℕ → ℕ
readings src k = count_by (reads k) src

-- how many moves are pending
abbrev pub pending_count : Table → ℕ
pending_count src = count_by is_some src

-- some move goes to the place of this number
abbrev pub HasTarget : List Move → ℕ → Type 0
HasTarget [] k = ⊥
HasTarget (m ∷ ms) k = (number m.1 ≡ k) ⊎ HasTarget ms k

-- no two moves go to one place
abbrev pub AreApart : List Move → Type 0
AreApart [] = Unit {0}
AreApart (m ∷ ms) = (HasTarget ms (number m.1) → ⊥) × AreApart ms

-- the word that a place gets from a source
abbrev pub word_from : Words → Place → Option Place → ℕ
word_from e q None = e q
word_from e q (Some s) = e s

-- what the pending moves leave, done all at once
abbrev pub left_by : Table → Words → Words
left_by src e = λ q. word_from e q (source_at src (number q))

-- single moves that stand for the pending ones
pub data StandForRest (src : Table) : List Move → List Move → Type 0 where
  none : StandForRest src [] []
  finished : {s t : Place} {ms r : List Move} → source_at src (number t) ≡ None → StandForRest src ms r → StandForRest src ((s, t) ∷ ms) r
  once : {s t w : Place} {ms : List Move} (a b : List Move) → source_at src (number t) ≡ Some w → StandForRest src ms (a ++ b) → StandForRest src ((s, t) ∷ ms) (a ++ ((w, t) ∷ b))
  around : {s t w : Place} {ms : List Move} (a b c : List Move) → source_at src (number t) ≡ Some w → w ≢ temporary → StandForRest src ms (a ++ (b ++ c)) → StandForRest src ((s, t) ∷ ms) (a ++ ((w, temporary) ∷ (b ++ ((temporary, t) ∷ c))))

-- pending moves go to targets of these
abbrev pub GoTo : Table → List Move → Type 0
GoTo src ms = (k : ℕ) → IsPending src k → HasTarget ms k

-- the tables have a place for each number, and the second counts how often each place is read
pub record Counted (src : Table) (rds : List ℕ) : Type 0 where
  pub sources : length src ≡ numbers
  pub readers : length rds ≡ numbers
  pub counts : (k : ℕ) → k < numbers → slice_index rds k ≡ readings src k

-- what is pending and what is done come to the moves of a list
pub record Stands (ms : List Move) (src : Table) (done : List Move) : Type 0 where
  pub goes : GoTo src ms
  pub apart : (q s : Place) → source_at src (number q) ≡ Some s → s ≢ q
  pub effect : (e : Words) (q : Place) → q ≢ temporary → left_by src (one_by_one done e) q ≡ all_at_once ms e q
  pub moves : (r : List Move) → StandForRest src ms r → StandFor ms (done ++ r)

-- pending moves whose target isn't read go to targets of these
abbrev pub FreeGoTo : Table → List Move → Type 0
FreeGoTo src ms = (k : ℕ) → IsPending src k → readings src k ≡ 0 → HasTarget ms k

-- from one table to another some moves were done
pub record Ran (src : Table) (done : List Move) (src' : Table) (done' : List Move) : Type 0 where
  pub stands : (ms : List Move) → AreApart ms → Stands ms src done → Stands ms src' done'
  pub total : length done' + pending_count src' ≡ length done + pending_count src
  pub fewer : pending_count src' ≤ pending_count src
  pub kept : (k : ℕ) → (source_at src' k ≡ source_at src k) ⊎ (source_at src' k ≡ None)
  -- a place that was read is still read as long as nothing is done
  pub unread : (k : ℕ) → 1 ≤ readings src k → pending_count src' ≡ pending_count src → 1 ≤ readings src' k
  -- where the move into it is done, another was done before
  pub two : (k : ℕ) → 1 ≤ readings src k → IsPending src k → source_at src' k ≡ None → pending_count src' + 2 ≤ pending_count src

-- from one table to another some moves were done, the one into the place of this number among them, by way of the compiler's own register
pub record Turned (k : ℕ) (src : Table) (done : List Move) (src' : Table) (done' : List Move) : Type 0 where
  pub stands : (ms : List Move) → AreApart ms → Stands ms src done → Stands ms src' done'
  pub gone : source_at src' k ≡ None
  pub kept : (j : ℕ) → (source_at src' j ≡ source_at src j) ⊎ (source_at src' j ≡ None)
  pub stuck : FreeGoTo src' []
  pub weight : 2 * length done' + 3 * pending_count src' ≤ 2 * length done + 3 * pending_count src

-- what a move wants at the start: nothing where its ends are one place, else its source
abbrev pub source_of : Move → Option Place
source_of m = if same_place m.0 m.1 then None else Some m.0

-- the first so many moves are pending, and nothing else
pub record Begun (ms : List Move) (i : ℕ) (src : Table) : Type 0 where
  pub each : (j : ℕ) (d : Move) → j < i → source_at src (number (slice_index_or ms j d).1) ≡ source_of (slice_index_or ms j d)
  pub others : GoTo src (take i ms)
