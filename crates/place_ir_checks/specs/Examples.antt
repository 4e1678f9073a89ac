-- Small placements, to see the rules at work.
use Rattle.std.specs.Prelude.{ℕ, Option, List, [], ◌∷◌}
use Rattle.place_plan.specs.declared.place.Place.{Place}
use Rattle.place_plan.specs.declared.place.Place.TheVariants.{A, B, L, S, Slot}
use Rattle.place_plan.specs.declared.place.First.{First}
use Rattle.place_plan.specs.declared.place.Serve.{Serve}
use Rattle.place_plan.specs.declared.place.Pass.{Pass}
use Rattle.place_plan.specs.Plan.{Home, Plan}

abbrev pub at_home : ℕ → Place → List Place → Home
at_home x q copied = record { var = x; defined = q; copied = copied }

abbrev pub first_at : ℕ → ℕ → First
first_at k f = record { point = k; first = f }

abbrev pub serve_at : ℕ → ℕ → Place → Place → Serve
serve_at k i from at = record { point = k; operand = i; from = from; at = at }

abbrev pub pass_at : ℕ → Option ℕ → Option ℕ → Pass
pass_at k l s = record { point = k; l = l; s = s }

-- places for the sum of two parameters: the first, the second and the sum have these homes, and are used in place
abbrev pub sum_in : Place → Place → Place → Plan
sum_in q r t = record {
  slots = 0;
  homes = at_home 0 q [] ∷ at_home 1 r [] ∷ at_home 2 t [] ∷ [];
  firsts = [];
  serves = serve_at 1 0 q q ∷ serve_at 1 1 r r ∷ serve_at 2 0 t (A 0) ∷ [];
  passes = [];
}

-- the same with the second parameter in a slot, through this read register
abbrev pub sum_through : ℕ → List Pass → Plan
sum_through slots passes = record {
  slots = slots;
  homes = at_home 0 (A 0) [] ∷ at_home 1 (Slot 0) [] ∷ at_home 2 (A 0) [] ∷ [];
  firsts = [];
  serves = serve_at 1 0 (A 0) (A 0) ∷ serve_at 1 1 (Slot 0) (L 3) ∷ serve_at 2 0 (A 0) (A 0) ∷ [];
  passes = passes;
}

-- places for two words that are read, written after and added up: both stay in their read registers from the first of the read on; the
-- first is put early into its write register, and the address of the write comes into this place
abbrev pub words_in : ℕ → ℕ → Place → List Place → Plan
words_in read write address copied = record {
  slots = 0;
  homes = at_home 0 (A 0) [] ∷ at_home 1 (L read) copied ∷ at_home 2 (L 5) (B 0 ∷ []) ∷ at_home 7 address [] ∷ at_home 8 (A 2) [] ∷ [];
  firsts = first_at 2 read ∷ first_at 6 write ∷ [];
  serves =
      serve_at 2 0 (A 0) (A 0)
      ∷ serve_at 6 0 address address
      ∷ serve_at 6 1 (S write) (S write)
      ∷ serve_at 6 2 (L 5) (S 1)
      ∷ serve_at 7 0 (L read) (L read)
      ∷ serve_at 7 1 (B 0) (B 0)
      ∷ serve_at 8 0 (A 2) (A 0)
      ∷ [];
  passes = [];
}
