-- The placement that has every value in a slot, place by place.
use Rattle.std.specs.Prelude.{◌≡◌, ℕ, suc, ◌≤◌, nat_eq, nat_lt, Bool, Option, Some, None, List, [], ◌∷◌, ◌++◌, map, length, if◌then◌else◌}
use Rattle.std.specs.HashMap.{get}
use Rattle.std.specs.HashSet.{contains}
use Rattle.std.specs.List.{list_any}
use Rattle.nv_base.specs.declared.term.Mem.{Mem}
use Rattle.ssu_ir.specs.Tree.{Step, Lit, Una, Bin, Clone, Read, Write, Label, Does, Forks, Ends, node_uses}
use Rattle.ssu_ir.specs.Points.{Names, PointKind as Spot, Entry, At, place_values}
use Rattle.place_plan.specs.declared.place.Place.{Place}
use Rattle.place_plan.specs.declared.place.Place.TheVariants.{Slot}
use Rattle.place_plan.specs.declared.place.First.{First}
use Rattle.place_plan.specs.declared.place.Serve.{Serve}
use Rattle.place_plan.specs.declared.place.Pass.{Pass}
use Rattle.place_plan.specs.declared.parts.SpillInputs.{SpillInputs}
use Rattle.place_plan.specs.declared.parts.Parts.{Parts}
use Rattle.place_plan.specs.Plan.{Home, home_view}
use Rattle.place_plan.specs.Uses.{place_accesses, Result, Fetched, Role, place_roles, uses_at, roles}
use Rattle.ssu_liveness.specs.inner.Live.{value_by}
use Rattle.ssu_liveness.specs.inner.Numbers.{Numbers}
use Rattle.place_plan.specs.inner.Spilled.{slot_number, origin_home, use_serve, access_first, read_pass, write_pass}

-- what each of these places, which are numbered from k, gives
abbrev pub gather : {X : Type 0} → (ℕ → Spot → List X) → ℕ → List Spot → List X
gather f k [] = []
gather f k (q ∷ qs) = f k q ++ gather f (suc k) qs

-- ---- what the placement rests on

-- numbers that fit into a byte
abbrev pub in_byte : Option ℕ → Option ℕ
in_byte (Some n) = if nat_lt n 256 then Some n else None
in_byte None = None

abbrev pub bytes : Numbers → Numbers
bytes number x = in_byte (number x)

abbrev pub number_of : SpillInputs → Numbers
number_of g = bytes (get nat_eq g.slots)

abbrev pub names_of : SpillInputs → Names
names_of g = value_by (get nat_eq g.copies)

abbrev pub used_of : SpillInputs → ℕ → Bool
used_of g x = contains nat_eq g.used x

-- ---- places

-- the names that a place uses, by operand
abbrev pub place_names : Spot → List ℕ
place_names (Entry l params) = []
place_names (At n) = node_uses n

-- its values and its operands can be numbered in a byte
pub record IsShort (q : Spot) : Type 0 where
  pub values : length (place_values q) ≤ 128
  pub uses : length (place_names q) ≤ 128

-- the values that it uses
abbrev pub used_at : Names → ℕ → Spot → List ℕ
used_at of k q = map of (place_names q)

-- ---- homes

abbrev pub slot_home : Numbers → ℕ → Home
slot_home number x = origin_home (slot_number number x) x Result

abbrev pub fetched_home : Numbers → (ℕ → Bool) → Mem → ℕ → ℕ → List Home
fetched_home number used m i x = if used x then origin_home (slot_number number x) x (Fetched m i) ∷ [] else []

-- of the words of a read, from word i on, those that are used
abbrev pub fetched_homes : Numbers → (ℕ → Bool) → Mem → ℕ → List ℕ → List Home
fetched_homes number used m i [] = []
fetched_homes number used m i (x ∷ xs) = fetched_home number used m i x ++ fetched_homes number used m (suc i) xs

abbrev pub step_homes : Numbers → (ℕ → Bool) → Step → List Home
step_homes number used (Lit x v) = slot_home number x ∷ []
step_homes number used (Una x op y) = slot_home number x ∷ []
step_homes number used (Bin x op y z) = slot_home number x ∷ []
step_homes number used (Clone xs y) = []
step_homes number used (Read m xs y) = fetched_homes number used m 0 xs
step_homes number used (Write m y xs) = []

abbrev pub homes_at : Numbers → (ℕ → Bool) → ℕ → Spot → List Home
homes_at number used k (Entry l params) = map (slot_home number) params
homes_at number used k (At (Does s)) = step_homes number used s
homes_at number used k (At (Forks c x y)) = []
homes_at number used k (At (Ends l)) = []

-- ---- accesses, uses and passes

abbrev pub firsts_at : ℕ → Spot → List First
firsts_at k q = map access_first (place_accesses k q)

-- operand i serves a copy of this name
abbrev pub serve_of : Numbers → Names → ℕ → ℕ → ℕ → Place → Serve
serve_of number of k i x q = record { point = k; operand = i; from = Slot (slot_number number (of x)); at = q }

-- words from word j on, by operands from i on
abbrev pub word_serves : List Label → Numbers → Names → ℕ → ℕ → ℕ → (ℕ → Role) → List ℕ → List Serve
word_serves labels number of k i j role xs = map (use_serve labels number) (uses_at k i (map of xs) (roles role j xs))

abbrev pub serves_at : List Label → Numbers → Names → ℕ → Spot → List Serve
serves_at labels number of k q = map (use_serve labels number) (uses_at k 0 (map of (place_names q)) (place_roles q))

abbrev pub pass_at : (ℕ → Bool) → ℕ → Spot → Pass
pass_at used k q = record { point = k; l = read_pass (place_names q); s = write_pass (list_any used (place_values q)) }

abbrev pub passes_at : (ℕ → Bool) → ℕ → Spot → List Pass
passes_at used k q = pass_at used k q ∷ []

-- ---- all of them

-- the parts of a place of this number come behind others
pub record Adds (labels : List Label) (given : SpillInputs) (k : ℕ) (q : Spot) (old new : Parts) : Type 0 where
  pub homes : map home_view new.homes.items ≡ map home_view old.homes.items ++ homes_at (number_of given) (used_of given) k q
  pub firsts : new.firsts.items ≡ old.firsts.items ++ firsts_at k q
  pub serves : new.serves.items ≡ old.serves.items ++ serves_at labels (number_of given) (names_of given) k q
  pub passes : new.passes.items ≡ old.passes.items ++ passes_at (used_of given) k q

-- after these parts come those of the places from this number on
pub record Gathers (labels : List Label) (given : SpillInputs) (k : ℕ) (left qs : List Spot) (parts : Parts) : Type 0 where
  pub homes : map home_view parts.homes.items ++ gather (homes_at (number_of given) (used_of given)) k left ≡ gather (homes_at (number_of given) (used_of given)) 0 qs
  pub firsts : parts.firsts.items ++ gather firsts_at k left ≡ gather firsts_at 0 qs
  pub serves : parts.serves.items ++ gather (serves_at labels (number_of given) (names_of given)) k left ≡ gather (serves_at labels (number_of given) (names_of given)) 0 qs
  pub passes : parts.passes.items ++ gather (passes_at (used_of given)) k left ≡ gather (passes_at (used_of given)) 0 qs

-- the parts of all these places
pub record AreGathered (labels : List Label) (given : SpillInputs) (qs : List Spot) (parts : Parts) : Type 0 where
  pub homes : map home_view parts.homes.items ≡ gather (homes_at (number_of given) (used_of given)) 0 qs
  pub firsts : parts.firsts.items ≡ gather firsts_at 0 qs
  pub serves : parts.serves.items ≡ gather (serves_at labels (number_of given) (names_of given)) 0 qs
  pub passes : parts.passes.items ≡ gather (passes_at (used_of given)) 0 qs
