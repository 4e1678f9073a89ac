-- Placements as pure data, and what they say of a value, an access, a use and a point.
use Rattle.std.specs.Prelude.{ℕ, nat_eq, ◌&&◌, List, [], ◌∷◌, None, map, if◌then◌else◌}
use Rattle.place_plan.specs.declared.place.Place.{Place}
use Rattle.place_plan.specs.declared.place.Place.TheVariants.{Slot}
use Rattle.place_plan.specs.declared.place.Home.{Home as KeptHome}
use Rattle.place_plan.specs.declared.place.First.{First}
use Rattle.place_plan.specs.declared.place.Serve.{Serve}
use Rattle.place_plan.specs.declared.place.Pass.{Pass}
use Rattle.place_plan.specs.declared.place.Placement.{Placement}

pub record Home : Type 0 where
  pub var : ℕ
  pub defined : Place
  pub copied : List Place

pub record Plan : Type 0 where
  pub slots : ℕ
  pub homes : List Home
  pub firsts : List First
  pub serves : List Serve
  pub passes : List Pass

abbrev pub home_view : KeptHome → Home
home_view h = record { var = h.var; defined = h.defined; copied = h.copied.items }

abbrev pub plan_view : Placement → Plan
plan_view p = record { slots = p.slots; homes = map home_view p.homes.items; firsts = p.firsts.items; serves = p.serves.items; passes = p.passes.items }

-- the home of a value; a value without one is never asked for
abbrev pub homeless : ℕ → Home
homeless x = record { var = x; defined = Slot 0; copied = [] }

abbrev pub home_in : List Home → ℕ → Home
home_in [] x = homeless x
home_in (h ∷ hs) x = if nat_eq h.var x then h else home_in hs x

abbrev pub home : Plan → ℕ → Home
home p x = home_in p.homes x

-- the first register of the access at a point
abbrev pub first_in : List First → ℕ → ℕ
first_in [] k = 0
first_in (f ∷ fs) k = if nat_eq f.point k then f.first else first_in fs k

abbrev pub first : Plan → ℕ → ℕ
first p k = first_in p.firsts k

-- how the operand of a number is served at a point
abbrev pub serve_in : List Serve → ℕ → ℕ → Serve
serve_in [] k i = record { point = k; operand = i; from = Slot 0; at = Slot 0 }
serve_in (s ∷ ss) k i = if nat_eq s.point k && nat_eq s.operand i then s else serve_in ss k i

abbrev pub serve : Plan → ℕ → ℕ → Serve
serve p k i = serve_in p.serves k i

-- through which registers slots are read and written at a point; a point without a pass names none
abbrev pub pass_in : List Pass → ℕ → Pass
pass_in [] k = record { point = k; l = None; s = None }
pass_in (q ∷ qs) k = if nat_eq q.point k then q else pass_in qs k

abbrev pub pass : Plan → ℕ → Pass
pass p k = pass_in p.passes k
