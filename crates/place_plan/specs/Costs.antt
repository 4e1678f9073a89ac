-- What a placement costs: the weights of the copies and the accesses to slots that it asks for.
use Rattle.std.specs.Prelude.{ℕ, zero, suc, ◌+◌, nat_eq, List, [], ◌∷◌, if◌then◌else◌}
use Rattle.ssu_ir.specs.Tree.{Label}
use Rattle.place_plan.specs.declared.place.Place.{Place}
use Rattle.place_plan.specs.declared.place.Place.TheVariants.{A, B, L, LD, S, SD, Slot}
use Rattle.place_plan.specs.Plan.{Plan, home, serve}
use Rattle.place_plan.specs.Uses.{ValueOrigin, Parameter, Result, Fetched, Value, values, Use, uses}

-- the first place of a parameter: those of label 0 come in the first bank, those of other labels where the jump puts them
abbrev pub entry_cost : Place → ℕ
entry_cost (A k) = 0
entry_cost (Slot k) = 17
entry_cost _ = 1

-- an operation writes registers; to a slot it takes one access more
abbrev pub result_cost : Place → ℕ
result_cost (Slot k) = 16
result_cost _ = 0

abbrev pub defined_cost : ValueOrigin → Place → ℕ
defined_cost (Parameter zero i) q = entry_cost q
defined_cost (Parameter (suc l) i) q = 0
defined_cost Result q = result_cost q
defined_cost (Fetched m i) q = 0

-- a copy directly after the definition
abbrev pub copied_cost : Place → ℕ
copied_cost (Slot k) = 17
copied_cost _ = 1

abbrev pub all_copied_cost : List Place → ℕ
all_copied_cost [] = 0
all_copied_cost (q ∷ qs) = copied_cost q + all_copied_cost qs

-- the homes of a value
abbrev pub value_cost : Plan → Value → ℕ
value_cost p v = defined_cost v.origin (home p v.var).defined + all_copied_cost (home p v.var).copied

-- a word that is fetched: from a slot it is read into a read register, and from there copied, but into the compiler's own register at no
-- weight; between banks of registers it is a copy
abbrev pub served_cost : Place → Place → ℕ
served_cost (Slot k) (L r) = 16
served_cost (Slot k) (Slot r) = 33
served_cost (Slot k) (A r) = if nat_eq r 15 then 16 else 17
served_cost (Slot k) q = 17
served_cost q (Slot k) = 17
served_cost (A k) (A r) = 0
served_cost (B k) (B r) = 0
served_cost (L k) (L r) = 0
served_cost (LD k) (LD r) = 0
served_cost (S k) (S r) = 0
served_cost (SD k) (SD r) = 0
served_cost q r = 1

abbrev pub use_cost : Plan → Use → ℕ
use_cost p u = let s = serve p u.point u.operand in served_cost s.from s.at

abbrev pub values_cost : Plan → List Value → ℕ
values_cost p [] = 0
values_cost p (v ∷ vs) = value_cost p v + values_cost p vs

abbrev pub uses_cost : Plan → List Use → ℕ
uses_cost p [] = 0
uses_cost p (u ∷ us) = use_cost p u + uses_cost p us

abbrev pub cost : List Label → Plan → ℕ
cost labels p = values_cost p (values labels) + uses_cost p (uses labels)
