-- Places.
use Rattle.std.specs.Prelude.{Bool, false, nat_eq}
use Rattle.place_plan.specs.declared.place.Place.{Place}
use Rattle.place_plan.specs.declared.place.Place.TheVariants.{A, B, L, LD, S, SD, Slot}

-- whether two places are one
abbrev pub same_place : Place → Place → Bool
same_place (A i) (A j) = nat_eq i j
same_place (B i) (B j) = nat_eq i j
same_place (L i) (L j) = nat_eq i j
same_place (LD i) (LD j) = nat_eq i j
same_place (S i) (S j) = nat_eq i j
same_place (SD i) (SD j) = nat_eq i j
same_place (Slot i) (Slot j) = nat_eq i j
same_place _ _ = false
