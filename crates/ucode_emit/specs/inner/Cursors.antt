-- How far the emitter has come in the lists of a placement, which go by rising points as it goes over the points in order.
use Rattle.std.specs.Prelude.{◌≡◌, ℕ, zero, suc, ◌<◌, ◌≤◌, nat_eq, List, [], ◌∷◌, ◌++◌, length, map, Option, Some, None, if◌then◌else◌}
use Rattle.std.specs.List.{AllByRecursion}
use Rattle.ssu_ir.specs.Tree.{Step, Lit, Una, Bin, Clone, Read, Write, Does, Forks, Ends, node_uses}
use Rattle.ssu_ir.specs.Points.{PointKind, Entry, At}
use Rattle.place_plan.specs.declared.place.Serve.{Serve}
use Rattle.place_plan.specs.Fits.{Rises, at_operand}
use Rattle.ucode_emit.specs.inner.Marks.{Mark}

-- ---- what the points want of the lists

-- how many operands a point has
abbrev pub place_operands : PointKind → ℕ
place_operands (Entry l params) = 0
place_operands (At n) = length (node_uses n)

-- n operands of point k, numbered from i
abbrev pub operands_from : ℕ → ℕ → ℕ → List (ℕ × ℕ)
operands_from k i zero = []
operands_from k i (suc n) = (k, i) ∷ operands_from k (suc i) n

abbrev pub marks_operands : ℕ → List Mark → List (ℕ × ℕ)
marks_operands k [] = []
marks_operands k (q ∷ qs) = operands_from k 0 (place_operands q.place) ++ marks_operands (suc k) qs

-- whether memory is accessed at a point: then its number
abbrev pub step_access : ℕ → Step → List ℕ
step_access k (Lit x v) = []
step_access k (Una x op y) = []
step_access k (Bin x op y z) = []
step_access k (Clone xs y) = []
step_access k (Read m xs y) = k ∷ []
step_access k (Write m y xs) = k ∷ []

abbrev pub place_access : ℕ → PointKind → List ℕ
place_access k (Entry l params) = []
place_access k (At (Does s)) = step_access k s
place_access k (At (Forks c x y)) = []
place_access k (At (Ends l)) = []

abbrev pub marks_accesses : ℕ → List Mark → List ℕ
marks_accesses k [] = []
marks_accesses k (q ∷ qs) = place_access k q.place ++ marks_accesses (suc k) qs

-- ---- how far a list is done

-- the first `at` elements are of points below k, the others of k and above, at most one of each point
pub record IsCut {X : Type 0} (point : X → ℕ) (all : List X) (at k : ℕ) : Type 0 where
  pub front : List X
  pub back : List X
  pub whole : all ≡ front ++ back
  pub long : length front ≡ at
  pub before : AllByRecursion (λ x. point x < k) front
  pub behind : AllByRecursion (λ x. k ≤ point x) back
  pub rise : Rises (map point back)

-- the first `at` serves are of points below k, the others are those of these points in order
pub record AreServed (all : List Serve) (at k : ℕ) (qs : List Mark) : Type 0 where
  pub front : List Serve
  pub back : List Serve
  pub whole : all ≡ front ++ back
  pub long : length front ≡ at
  pub before : AllByRecursion (λ s. s.point < k) front
  pub operands : map at_operand back ≡ marks_operands k qs

-- an element of this point
abbrev pub of_point : {X : Type 0} → (X → ℕ) → ℕ → Option X → Option X
of_point point k (Some x) = if nat_eq (point x) k then Some x else None
of_point point k None = None

-- one element further, where there is one
abbrev pub further : {X : Type 0} → ℕ → Option X → ℕ
further at (Some x) = suc at
further at None = at
