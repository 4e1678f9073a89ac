-- The placement that has every value in a slot.
use Rattle.std.specs.Prelude.{◌≡◌, ℕ, zero, suc, Bool, true, false, Option, Some, None, unwrap_or, List, [], ◌∷◌, map, filter, All}
use Rattle.std.specs.List.{list_any}
use Rattle.nv_base.specs.Sets.{is_in, Within}
use Rattle.ssu_ir.specs.Tree.{Label}
use Rattle.ssu_ir.specs.Points.{Point, points}
use Rattle.place_plan.specs.declared.place.Place.{Place}
use Rattle.place_plan.specs.declared.place.Place.TheVariants.{A, L, Slot}
use Rattle.place_plan.specs.declared.place.First.{First}
use Rattle.place_plan.specs.declared.place.Serve.{Serve}
use Rattle.place_plan.specs.declared.place.Pass.{Pass}
use Rattle.place_plan.specs.Plan.{Home, Plan, home_in}
use Rattle.place_plan.specs.Uses.{Access, accesses, ValueOrigin, Parameter, Result, Fetched, Value, values, place_values, Role, Operand, Address, Written, Argument, Ending, Use, uses, is_used}
use Rattle.place_plan.specs.Fits.{read_place, write_place, parameter, wants_home, Rises}
use Rattle.ssu_liveness.specs.inner.Numbers.{Numbers, HasBelow, IsApart}

-- the slot of a value
abbrev pub slot_number : Numbers → ℕ → ℕ
slot_number number x = unwrap_or (number x) 0

-- a value comes into its slot, a read one into its read register and from there into its slot
abbrev pub origin_home : ℕ → ℕ → ValueOrigin → Home
origin_home n x (Parameter l i) = record { var = x; defined = Slot n; copied = [] }
origin_home n x Result = record { var = x; defined = Slot n; copied = [] }
origin_home n x (Fetched m i) = record { var = x; defined = read_place m i; copied = Slot n ∷ [] }

abbrev pub value_home : Numbers → Value → Home
value_home number v = origin_home (slot_number number v.var) v.var v.origin

-- the home of a value that wants one is found under its variable
abbrev pub IsAtHome : List Label → Numbers → List Home → Value → Type 0
IsAtHome labels number homes v = wants_home labels v ≡ true → (home_in homes v.var ≡ value_home number v) × (is_in v.var (map (λ h. h.var) homes) ≡ true)

-- these are the homes of the values that want one, by rising variable
pub record AreSpilled (labels : List Label) (number : Numbers) (homes : List Home) : Type 0 where
  pub rise : Rises (map (λ h. h.var) homes)
  pub each : All (IsAtHome labels number homes) (values labels)
  pub only : Within (map (λ h. h.var) homes) (map (λ v. v.var) (filter (wants_home labels) (values labels)))

-- of two operands the first comes through a read register, the second into the compiler's own
abbrev pub operand_at : ℕ → Place
operand_at zero = L 0
operand_at (suc i) = A 15

abbrev pub role_at : List Label → Numbers → ℕ → Role → Place
role_at labels number i Operand = operand_at i
role_at labels number i Address = A 15
role_at labels number i (Written m j) = write_place m j
role_at labels number i (Argument l j) = Slot (slot_number number (parameter labels l j))
role_at labels number i (Ending j) = A j

abbrev pub use_serve : List Label → Numbers → Use → Serve
use_serve labels number u = record { point = u.point; operand = u.operand; from = Slot (slot_number number u.value); at = role_at labels number u.operand u.role }

-- every access begins at the first register
abbrev pub access_first : Access → First
access_first a = record { point = a.point; first = 0 }

-- slots are read through the first register where there is a use
abbrev pub read_pass : List ℕ → Option ℕ
read_pass [] = None
read_pass (x ∷ xs) = Some 0

abbrev pub write_pass : Bool → Option ℕ
write_pass true = Some 0
write_pass false = None

-- and written through the first register where a value that is used is defined
abbrev pub point_pass : List Label → ℕ → Point → Pass
point_pass labels k q = record { point = k; l = read_pass q.uses; s = write_pass (list_any (λ v. is_used labels v.var) (place_values k q.place)) }

abbrev pub passes_from : List Label → ℕ → List Point → List Pass
passes_from labels k [] = []
passes_from labels k (q ∷ qs) = point_pass labels k q ∷ passes_from labels (suc k) qs

abbrev pub spilled : List Label → Numbers → ℕ → List Home → Plan
spilled labels number slots homes = record {
  slots = slots;
  homes = homes;
  firsts = map access_first (accesses labels);
  serves = map (use_serve labels number) (uses labels);
  passes = passes_from labels 0 (points labels);
}

-- every value of a row has a number below this one
pub record Covered (number : Numbers) (n : ℕ) (row : List ℕ) : Type 0 where
  pub given : (x : ℕ) → is_in x row ≡ true → HasBelow number x n

-- the live values at a point have numbers below this one, no two the same
pub record IsNumbered (number : Numbers) (n : ℕ) (q : Point) : Type 0 where
  pub covered : Covered number n q.before
  pub apart : IsApart number q.before
