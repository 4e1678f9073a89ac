-- The accesses, values and uses of a form, by points: what a placement is for.
use Rattle.std.specs.Prelude.{ℕ, suc, nat_eq, Bool, List, [], ◌∷◌, ◌++◌, map, filter, length}
use Rattle.nv_base.specs.declared.term.Mem.{Mem}
use Rattle.nv_base.specs.Sets.{is_in}
use Rattle.ssu_ir.specs.Tree.{Step, Lit, Una, Bin, Clone, Read, Write, Last, Jump, Halt, Label, Node, Does, Forks, Ends}
use Rattle.ssu_ir.specs.Points.{PointKind, Entry, At, Point, points}

-- ---- accesses

-- N words of a memory are read or written at a point
pub record Access : Type 0 where
  pub point : ℕ
  pub mem : Mem
  pub words : ℕ

abbrev pub step_reads : ℕ → Step → List Access
step_reads k (Lit x v) = []
step_reads k (Una x op y) = []
step_reads k (Bin x op y z) = []
step_reads k (Clone xs y) = []
step_reads k (Read m xs y) = record { point = k; mem = m; words = length xs } ∷ []
step_reads k (Write m y xs) = []

abbrev pub step_writes : ℕ → Step → List Access
step_writes k (Lit x v) = []
step_writes k (Una x op y) = []
step_writes k (Bin x op y z) = []
step_writes k (Clone xs y) = []
step_writes k (Read m xs y) = []
step_writes k (Write m y xs) = record { point = k; mem = m; words = length xs } ∷ []

abbrev pub reads_at : ℕ → PointKind → List Access
reads_at k (Entry l params) = []
reads_at k (At (Does s)) = step_reads k s
reads_at k (At (Forks c x y)) = []
reads_at k (At (Ends l)) = []

abbrev pub writes_at : ℕ → PointKind → List Access
writes_at k (Entry l params) = []
writes_at k (At (Does s)) = step_writes k s
writes_at k (At (Forks c x y)) = []
writes_at k (At (Ends l)) = []

abbrev pub place_accesses : ℕ → PointKind → List Access
place_accesses k q = reads_at k q ++ writes_at k q

abbrev pub accesses_from : ℕ → List Point → List Access
accesses_from k [] = []
accesses_from k (q ∷ qs) = place_accesses k q.place ++ accesses_from (suc k) qs

abbrev pub accesses : List Label → List Access
accesses labels = accesses_from 0 (points labels)

-- ---- values

-- how a value comes: parameter i of label l, the result of an operation or a literal, or word i of a read
pub data ValueOrigin : Type 0 where
  Parameter : (l i : ℕ) → ValueOrigin
  Result : ValueOrigin
  Fetched : (m : Mem) (i : ℕ) → ValueOrigin

pub record Value : Type 0 where
  pub point : ℕ
  pub var : ℕ
  pub origin : ValueOrigin

-- these variables, numbered from i
abbrev pub numbered : ℕ → (ℕ → ValueOrigin) → ℕ → List ℕ → List Value
numbered k origin i [] = []
numbered k origin i (x ∷ xs) = record { point = k; var = x; origin = origin i } ∷ numbered k origin (suc i) xs

abbrev pub result : ℕ → ℕ → List Value
result k x = record { point = k; var = x; origin = Result } ∷ []

abbrev pub step_values : ℕ → Step → List Value
step_values k (Lit x v) = result k x
step_values k (Una x op y) = result k x
step_values k (Bin x op y z) = result k x
step_values k (Clone xs y) = []
step_values k (Read m xs y) = numbered k (Fetched m) 0 xs
step_values k (Write m y xs) = []

abbrev pub node_values : ℕ → Node → List Value
node_values k (Does s) = step_values k s
node_values k (Forks c x y) = []
node_values k (Ends l) = []

abbrev pub place_values : ℕ → PointKind → List Value
place_values k (Entry l params) = numbered k (Parameter l) 0 params
place_values k (At n) = node_values k n

abbrev pub values_from : ℕ → List Point → List Value
values_from k [] = []
values_from k (q ∷ qs) = place_values k q.place ++ values_from (suc k) qs

abbrev pub values : List Label → List Value
values labels = values_from 0 (points labels)

-- ---- uses

-- what a use is: an operand, an address, word i of a write, the word for parameter i of label l, or word i of an end
pub data Role : Type 0 where
  Operand : Role
  Address : Role
  Written : (m : Mem) (i : ℕ) → Role
  Argument : (l i : ℕ) → Role
  Ending : (i : ℕ) → Role

pub record Use : Type 0 where
  pub point : ℕ
  pub operand : ℕ
  pub value : ℕ
  pub role : Role

-- a role for each of these words, numbered from i
abbrev pub roles : (ℕ → Role) → ℕ → List ℕ → List Role
roles role i [] = []
roles role i (x ∷ xs) = role i ∷ roles role (suc i) xs

abbrev pub step_roles : Step → List Role
step_roles (Lit x v) = []
step_roles (Una x op y) = Operand ∷ []
step_roles (Bin x op y z) = Operand ∷ Operand ∷ []
step_roles (Clone xs y) = []
step_roles (Read m xs y) = Address ∷ []
step_roles (Write m y xs) = Address ∷ roles (Written m) 0 xs

abbrev pub last_roles : Last → List Role
last_roles (Jump l xs) = roles (Argument l) 0 xs
last_roles (Halt e xs) = roles Ending 0 xs

abbrev pub node_roles : Node → List Role
node_roles (Does s) = step_roles s
node_roles (Forks c x y) = Operand ∷ Operand ∷ []
node_roles (Ends l) = last_roles l

abbrev pub place_roles : PointKind → List Role
place_roles (Entry l params) = []
place_roles (At n) = node_roles n

-- the uses of a point, numbered from operand i: a value and a role each
abbrev pub uses_at : ℕ → ℕ → List ℕ → List Role → List Use
uses_at k i [] rs = []
uses_at k i (x ∷ xs) [] = []
uses_at k i (x ∷ xs) (r ∷ rs) = record { point = k; operand = i; value = x; role = r } ∷ uses_at k (suc i) xs rs

abbrev pub uses_from : ℕ → List Point → List Use
uses_from k [] = []
uses_from k (q ∷ qs) = uses_at k 0 q.uses (place_roles q.place) ++ uses_from (suc k) qs

abbrev pub uses : List Label → List Use
uses labels = uses_from 0 (points labels)

-- the uses of a value
abbrev pub uses_of : List Label → ℕ → List Use
uses_of labels x = filter (λ u. nat_eq u.value x) (uses labels)

abbrev pub is_used : List Label → ℕ → Bool
is_used labels x = is_in x (map (λ u. u.value) (uses labels))
