-- Moves of words between places: what they do all at once, what they do one by one, and which single moves stand for them.
use Rattle.std.specs.Prelude.{◌≢◌, ℕ, List, [], ◌∷◌, ◌++◌, if◌then◌else◌, All, AllPairs}
use Rattle.place_plan.specs.declared.place.Place.{Place}
use Rattle.place_plan.specs.declared.place.Place.TheVariants.{A}
use Rattle.place_plan.specs.Places.{same_place}

-- a move of a word: from the first place to the second
abbrev pub Move : Type 0
Move = Place × Place

-- the word of each place
abbrev pub Words : Type 0
Words = Place → ℕ

-- the compiler's own register
abbrev pub temporary : Place
temporary = A 15

-- the same, but this place has this word
abbrev pub put : Words → Place → ℕ → Words
put e p w = λ q. if same_place q p then w else e q

-- what moves leave that are done one after the other: each takes the word that its source has by then
abbrev pub one_by_one : List Move → Words → Words
one_by_one [] e = e
one_by_one (m ∷ ms) e = one_by_one ms (put e m.1 (e m.0))

-- what moves leave that are done all at once: each takes the word that its source had at the start
abbrev pub all_at_once : List Move → Words → Words
all_at_once [] e = e
all_at_once (m ∷ ms) e = put (all_at_once ms e) m.1 (e m.0)

-- no two moves go to one place
abbrev pub HaveOwnTargets : List Move → Type 0
HaveOwnTargets ms = AllPairs (λ m n. m.1 ≢ n.1) ms

-- no move begins or ends at the compiler's own register
abbrev pub SpareTemporary : List Move → Type 0
SpareTemporary ms = All (λ m. (m.0 ≢ temporary) × (m.1 ≢ temporary)) ms

-- a place is no move's target
abbrev pub IsNoTarget : List Move → Place → Type 0
IsNoTarget ms q = All (λ m. m.1 ≢ q) ms

-- the single moves of the second list stand for the moves of the first: for each of those whose ends are two places there is that move, or its
-- source goes to the compiler's own register and later that register to its target; and there are no others
pub data StandFor : List Move → List Move → Type 0 where
  none : StandFor [] []
  once : {s t : Place} {ms : List Move} (a b : List Move) → s ≢ t → StandFor ms (a ++ b) → StandFor ((s, t) ∷ ms) (a ++ ((s, t) ∷ b))
  around : {s t : Place} {ms : List Move} (a b c : List Move) → s ≢ t → StandFor ms (a ++ (b ++ c)) → StandFor ((s, t) ∷ ms) (a ++ ((s, temporary) ∷ (b ++ ((temporary, t) ∷ c))))
  at_rest : {p : Place} {ms r : List Move} → StandFor ms r → StandFor ((p, p) ∷ ms) r
