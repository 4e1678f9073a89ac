-- Plans that have every value in a slot and nowhere else, and serve every use from there.
use Rattle.std.specs.Prelude.{◌≡◌, Bool, true, false, List, [], ◌∷◌, All}
use Rattle.place_plan.specs.declared.place.Place.{Place}
use Rattle.place_plan.specs.declared.place.Place.TheVariants.{L, LD, Slot}
use Rattle.place_plan.specs.declared.place.Serve.{Serve}
use Rattle.place_plan.specs.Fits.{is_slot}
use Rattle.place_plan.specs.Plan.{Home, Plan}

-- a value is put into a slot at first, or it is copied into one from the register that it is read into, and that is its only copy
abbrev pub is_in_slot : Place → List Place → Bool
is_in_slot (Slot n) [] = true
is_in_slot (L r) (Slot n ∷ []) = true
is_in_slot (LD r) (Slot n ∷ []) = true
is_in_slot _ _ = false

abbrev pub IsInSlot : Home → Type 0
IsInSlot h = is_in_slot h.defined h.copied ≡ true

-- a use is served from a slot
abbrev pub IsFromSlot : Serve → Type 0
IsFromSlot s = is_slot s.from ≡ true

pub record AreInSlots (p : Plan) : Type 0 where
  pub homes : All IsInSlot p.homes
  pub serves : All IsFromSlot p.serves
