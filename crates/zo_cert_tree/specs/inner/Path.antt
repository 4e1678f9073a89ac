-- the subtrees that are still to come in a walk through a tree, by the columns that are fixed above each
use Rattle.std.specs.Prelude.{◌≡◌, ℕ, ◌<◌, ◌≤◌, ◌^◌, List, [], ◌∷◌, length, Bool, true, false, slice_get, slice_set, Option, Some, None, replicate, drop}
use Rattle.std.specs.List.{All}
use Rattle.zo_model.specs.Program.{costs_of}
use Rattle.zo_cert_tree.specs.Fixing.{ones}

-- the costs of the columns, and for each subtree that is to come the columns fixed above it, the next subtree first
pub record Pending : Type 0 where
  pub costs : List ℕ
  pub fixings : List (List (Option Bool))

-- a walk that begins: one subtree, with no column fixed
abbrev pub begun : List ℕ → Pending
begun costs = record { costs = costs; fixings = replicate (length costs) None ∷ [] }

-- the first fixing
abbrev pub current : List (List (Option Bool)) → List (Option Bool)
current [] = []
current (f ∷ fs) = f

-- the others
abbrev pub rest_of : List (List (Option Bool)) → List (List (Option Bool))
rest_of [] = []
rest_of (f ∷ fs) = fs

-- at most 2 ^ 26 columns, each cost below 2 ^ 20
pub record HaveCosts (costs : List ℕ) : Type 0 where
  pub few : length costs ≤ 2 ^ 26
  pub small : All (λ c. c < 2 ^ 20) costs

-- into both arms of a branch on the column j, the arm of value 0 first
abbrev pub both_arms : ℕ → List (List (Option Bool)) → List (List (Option Bool))
both_arms j [] = []
both_arms j (f ∷ fs) = slice_set f j (Some false) ∷ slice_set f j (Some true) ∷ fs

-- the column is there, and unfixed in the first fixing
abbrev pub IsFreeIn : ℕ → List (List (Option Bool)) → Type 0
IsFreeIn j [] = ⊥
IsFreeIn j (f ∷ fs) = slice_get f j ≡ Some None

-- into the branch where its column is unfixed (true), else nothing is changed
abbrev pub Enters : Pending → Pending → ℕ → Bool → Type 0
Enters old new j true = IsFreeIn j old.fixings × (new ≡ record old { fixings = both_arms j old.fixings })
Enters old new j false = ¬ (IsFreeIn j old.fixings) × (new ≡ old)

-- ---- how a walk keeps its place: the columns that are fixed, the last first

-- there is a column, and it is fixed
abbrev pub IsFixed : Option (Option Bool) → Type 0
IsFixed (Some (Some v)) = Unit {0}
IsFixed (Some None) = ⊥
IsFixed None = ⊥

-- exactly these columns are fixed
abbrev pub FixesExactly : List (Option Bool) → List ℕ → Type 0
FixesExactly fixed [] = All (λ o. o ≡ None) fixed
FixesExactly fixed (j ∷ js) = IsFixed (slice_get fixed j) × FixesExactly (slice_set fixed j None) js

-- a column that is now 0 still has its arm of value 1 to come
abbrev pub later_after : Option (Option Bool) → List (Option Bool) → List (List (Option Bool)) → List (List (Option Bool))
later_after (Some (Some false)) arm rest = arm ∷ rest
later_after (Some (Some true)) arm rest = rest
later_after (Some None) arm rest = rest
later_after None arm rest = rest

-- the fixings of the subtrees that wait, where these columns were fixed in this order, the last first
abbrev pub later : List (Option Bool) → List ℕ → List (List (Option Bool))
later fixed [] = []
later fixed (j ∷ js) = later_after (slice_get fixed j) (slice_set fixed j (Some true)) (later (slice_set fixed j None) js)

-- what a walk keeps: its costs, the columns that are fixed on a stack that grows downward, and the cost of those fixed at 1
pub record KeepsPlace (costs : List ℕ) (fixed : List (Option Bool)) (stack : List ℕ) (top spent : ℕ) : Type 0 where
  pub costs_fit : HaveCosts costs
  pub one_a_column : length fixed ≡ length costs
  pub room : length stack ≡ length costs
  pub top_in : top ≤ length stack
  pub exact : FixesExactly fixed (drop top stack)
  pub spent_is : spent ≡ costs_of costs (ones fixed)

-- the fixings that are to come, where a subtree is open
abbrev pub open_fixings : Bool → List (Option Bool) → List ℕ → List (List (Option Bool))
open_fixings true fixed js = fixed ∷ later fixed js
open_fixings false fixed js = []

-- the column goes from 0 to 1 (true), or from 1 to unfixed (false)
abbrev pub Turns : List (Option Bool) → List (Option Bool) → ℕ → Bool → Type 0
Turns old new j true = (slice_get old j ≡ Some (Some false)) × (new ≡ slice_set old j (Some true))
Turns old new j false = (slice_get old j ≡ Some (Some true)) × (new ≡ slice_set old j None)
