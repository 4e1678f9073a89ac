-- Small tests that the definitions share.
use Rattle.std.specs.Prelude.{ℕ, ◌==◌, nat_le, Bool, true, false, ◌&&◌, ◌||◌, if◌then◌else◌, List, [], ◌∷◌, bytes_eq, Option, Some, None}
use Rattle.std.specs.List.{list_any, list_all}

-- a list of the one thing where the test holds, else of nothing
abbrev pub where_true : {A : Type 0} → Bool → A → List A
where_true b x = if b then x ∷ [] else []

-- from the least to the greatest of a range
abbrev pub within : ℕ → ℕ → ℕ → Bool
within least greatest n = nat_le least n && nat_le n greatest

-- whether a name is among some names
abbrev pub is_among : List ℕ → List (List ℕ) → Bool
is_among x names = list_any (bytes_eq x) names

-- whether some name is there twice
abbrev pub has_twice : List (List ℕ) → Bool
has_twice [] = false
has_twice (x ∷ names) = is_among x names || has_twice names

-- whether all numbers are the same
abbrev pub all_same : List ℕ → Bool
all_same [] = true
all_same (n ∷ ns) = list_all (λ m. m == n) ns

-- what stands first under a name
abbrev pub value_at : {A : Type 0} → A → List ℕ → List (List ℕ × A) → A
value_at none x [] = none
value_at none x ((y, a) ∷ rest) = if bytes_eq x y then a else value_at none x rest

-- the names of a list of named things
abbrev pub names_of : {A : Type 0} → List (List ℕ × A) → List (List ℕ)
names_of [] = []
names_of ((x, a) ∷ rest) = x ∷ names_of rest

-- what stands first under a name, if anything does
abbrev pub look_up : {A : Type 0} → List ℕ → List (List ℕ × A) → Option A
look_up x [] = None
look_up x ((y, a) ∷ rest) = if bytes_eq x y then Some a else look_up x rest
