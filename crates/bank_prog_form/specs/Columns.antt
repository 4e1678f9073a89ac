-- The columns of the bank program, each with its cost. They stand family by family, and in a family by point, and there by the position
-- of the value or use.
use Rattle.std.specs.Prelude.{ℕ, zero, suc, ◌+◌, ◌%◌, nat_eq, nat_le, Bool, true, false, ◌&&◌, List, [], ◌∷◌, ◌++◌, map, filter, length, if◌then◌else◌}
use Rattle.std.specs.List.{flat_map, list_any}
use Rattle.nv_base.specs.declared.term.Mem.{Mem}
use Rattle.nv_base.specs.declared.term.Mem.TheVariants.{Sram, Sdram, Scratch}
use Rattle.ssu_ir.specs.Tree.{Step, Lit, Una, Bin, Clone, Read, Write, Label, Does, Forks, Ends}
use Rattle.ssu_ir.specs.Points.{PointKind, Entry, At, Point, points}
use Rattle.place_plan.specs.Uses.{Access, accesses, ValueOrigin, Parameter, Result, Fetched, Value, values, place_values, Role, Operand, Address, Written, Argument, Ending, Use, uses, uses_at, place_roles, is_used}
use Rattle.place_plan.specs.Fits.{is_result}
use Rattle.bank_prog_form.specs.declared.column.Bank.{Bank}
use Rattle.bank_prog_form.specs.declared.column.Bank.TheVariants.{A, B, M, T, L, A15, W}
use Rattle.bank_prog_form.specs.declared.column.Column.{Column}
use Rattle.bank_prog_form.specs.declared.column.Column.TheVariants.{Def, DirectWrite, Fill, Stay, EarlyWrite, First, Serve, ReadVia, WriteVia}
use Rattle.bank_prog_form.specs.declared.column.Service.{Service}

-- f of each point; the points are numbered from k
abbrev pub each_point : {X : Type 0} → (ℕ → Point → List X) → ℕ → List Point → List X
each_point f k [] = []
each_point f k (q ∷ qs) = f k q ++ each_point f (suc k) qs

-- ---- what columns there are depends on how a value comes, and on where the run of an access may begin

-- how the value of a variable comes; no other variable is ever asked for
abbrev pub origin_in : List Value → ℕ → ValueOrigin
origin_in [] x = Result
origin_in (v ∷ vs) x = if nat_eq v.var x then v.origin else origin_in vs x

abbrev pub origin_of : List Label → ℕ → ValueOrigin
origin_of labels x = origin_in (values labels) x

abbrev pub is_fetched : ValueOrigin → Bool
is_fetched (Parameter l i) = false
is_fetched Result = false
is_fetched (Fetched m i) = true

-- the uses of a point
abbrev pub point_uses : ℕ → Point → List Use
point_uses k q = uses_at k 0 q.uses (place_roles q.place)

-- how many words the access at a place has
abbrev pub step_words : Step → ℕ
step_words (Lit x v) = 0
step_words (Una x op y) = 0
step_words (Bin x op y z) = 0
step_words (Clone xs y) = 0
step_words (Read m xs y) = length xs
step_words (Write m y xs) = length xs

abbrev pub place_words : PointKind → ℕ
place_words (Entry l params) = 0
place_words (At (Does s)) = step_words s
place_words (At (Forks c x y)) = 0
place_words (At (Ends l)) = 0

-- the numbers of the eight registers of a transfer bank
abbrev pub eight : List ℕ
eight = 0 ∷ 1 ∷ 2 ∷ 3 ∷ 4 ∷ 5 ∷ 6 ∷ 7 ∷ []

-- n words from register f on are registers of their bank, for SDRAM from an even one on
abbrev pub may_begin : Mem → ℕ → ℕ → Bool
may_begin Sram n f = nat_le (f + n) 8
may_begin Sdram n f = nat_le (f + n) 8 && nat_eq (f % 2) 0
may_begin Scratch n f = nat_le (f + n) 8

abbrev pub beginnings : Mem → ℕ → List ℕ
beginnings m n = filter (may_begin m n) eight

-- where the write of a written word may begin, and where the read of a read value, where the access has n words
abbrev pub role_beginnings : ℕ → Role → List ℕ
role_beginnings n (Written m i) = beginnings m n
role_beginnings n _ = []

abbrev pub origin_beginnings : ℕ → ValueOrigin → List ℕ
origin_beginnings n (Fetched m i) = beginnings m n
origin_beginnings n _ = []

-- ---- the families

abbrev pub Priced : Type 0
Priced = Column × ℕ

-- the parameters of label 0 come in bank A, those of other labels where the jump puts them
abbrev pub origin_defs : ℕ → ValueOrigin → List Priced
origin_defs x (Parameter zero i) = (Def x A, 0) ∷ (Def x B, 1) ∷ (Def x M, 17) ∷ []
origin_defs x (Parameter (suc l) i) = (Def x A, 0) ∷ (Def x B, 0) ∷ (Def x M, 0) ∷ []
origin_defs x Result = (Def x A, 0) ∷ (Def x B, 0) ∷ (Def x M, 16) ∷ []
origin_defs x (Fetched m i) = []

abbrev pub def_columns : Value → List Priced
def_columns v = origin_defs v.var v.origin

-- a written word whose value is a result
abbrev pub dir_columns : List Label → ℕ → Use → List Priced
dir_columns labels n u = if is_result (origin_of labels u.value) then map (λ f. (DirectWrite u.point u.operand f, 0)) (role_beginnings n u.role) else []

abbrev pub point_dirs : List Label → ℕ → Point → List Priced
point_dirs labels k q = flat_map (dir_columns labels (place_words q.place)) (point_uses k q)

-- a used value
abbrev pub fill_columns : List Label → Value → List Priced
fill_columns labels v = if is_used labels v.var then (Fill v.var A, 1) ∷ (Fill v.var B, 1) ∷ (Fill v.var M, 17) ∷ [] else []

-- a used read value
abbrev pub stay_columns : List Label → ℕ → Value → List Priced
stay_columns labels n v = if is_used labels v.var then map (λ f. (Stay v.var f, 0)) (origin_beginnings n v.origin) else []

abbrev pub point_stays : List Label → ℕ → Point → List Priced
point_stays labels k q = flat_map (stay_columns labels (place_words q.place)) (place_values k q.place)

-- a written word
abbrev pub ear_columns : ℕ → Use → List Priced
ear_columns n u = map (λ f. (EarlyWrite u.point u.operand f, 1)) (role_beginnings n u.role)

abbrev pub point_ears : ℕ → Point → List Priced
point_ears k q = flat_map (ear_columns (place_words q.place)) (point_uses k q)

-- a read or a write
abbrev pub first_columns : Access → List Priced
first_columns a = map (λ f. (First a.point f, 0)) (beginnings a.mem a.words)

-- how a use can be served. A word that isn't where it is wanted is copied, at 1 between banks, and fetched from a slot and put into one at
-- 16 each, and at 1 more where it passes on to another bank than the compiler's own register
abbrev pub services : Role → List Service
services Operand =
    record { from = A; at = A; cost = 0 }
    ∷ record { from = B; at = B; cost = 0 }
    ∷ record { from = T; at = T; cost = 0 }
    ∷ record { from = M; at = L; cost = 16 }
    ∷ record { from = M; at = A15; cost = 16 }
    ∷ record { from = B; at = A15; cost = 1 }
    ∷ record { from = T; at = A15; cost = 1 }
    ∷ []
services Address =
    record { from = A; at = A; cost = 0 }
    ∷ record { from = B; at = B; cost = 0 }
    ∷ record { from = T; at = A15; cost = 1 }
    ∷ record { from = M; at = A15; cost = 16 }
    ∷ []
services (Written m i) =
    record { from = A; at = W; cost = 1 }
    ∷ record { from = B; at = W; cost = 1 }
    ∷ record { from = T; at = W; cost = 1 }
    ∷ record { from = M; at = W; cost = 17 }
    ∷ []
services (Argument l i) =
    record { from = A; at = A; cost = 0 }
    ∷ record { from = A; at = B; cost = 1 }
    ∷ record { from = A; at = M; cost = 17 }
    ∷ record { from = B; at = A; cost = 1 }
    ∷ record { from = B; at = B; cost = 0 }
    ∷ record { from = B; at = M; cost = 17 }
    ∷ record { from = T; at = A; cost = 1 }
    ∷ record { from = T; at = B; cost = 1 }
    ∷ record { from = T; at = M; cost = 17 }
    ∷ record { from = M; at = A; cost = 17 }
    ∷ record { from = M; at = B; cost = 17 }
    ∷ record { from = M; at = M; cost = 33 }
    ∷ []
services (Ending i) =
    record { from = A; at = A; cost = 0 }
    ∷ record { from = B; at = A; cost = 1 }
    ∷ record { from = T; at = A; cost = 1 }
    ∷ record { from = M; at = A; cost = 17 }
    ∷ []

-- only read values are served from a read register
abbrev pub has_bank : Bool → Bank → Bool
has_bank fetched T = fetched
has_bank fetched _ = true

abbrev pub use_services : Bool → Use → List Priced
use_services fetched u = map (λ s. (Serve u.point u.operand s.from s.at, s.cost)) (filter (λ s. has_bank fetched s.from) (services u.role))

abbrev pub srv_columns : List Label → Use → List Priced
srv_columns labels u = use_services (is_fetched (origin_of labels u.value)) u

-- a column for each register, where there is one
abbrev pub for_eight : Bool → (ℕ → Column) → List Priced
for_eight true column = map (λ r. (column r, 0)) eight
for_eight false column = []

-- a node with a use
abbrev pub pas_l_columns : ℕ → Point → List Priced
pas_l_columns k q = for_eight (nat_le 1 (length q.uses)) (ReadVia k)

-- a point that defines a used value
abbrev pub pas_s_columns : List Label → ℕ → Point → List Priced
pas_s_columns labels k q = for_eight (list_any (λ v. is_used labels v.var) (place_values k q.place)) (WriteVia k)

-- ---- all

abbrev pub all_dirs : List Label → List Priced
all_dirs labels = each_point (point_dirs labels) 0 (points labels)

abbrev pub all_stays : List Label → List Priced
all_stays labels = each_point (point_stays labels) 0 (points labels)

abbrev pub all_ears : List Label → List Priced
all_ears labels = each_point point_ears 0 (points labels)

abbrev pub all_pas_l : List Label → List Priced
all_pas_l labels = each_point pas_l_columns 0 (points labels)

abbrev pub all_pas_s : List Label → List Priced
all_pas_s labels = each_point (pas_s_columns labels) 0 (points labels)

abbrev pub priced : List Label → List Priced
priced labels =
    flat_map def_columns (values labels)
    ++ (all_dirs labels
    ++ (flat_map (fill_columns labels) (values labels)
    ++ (all_stays labels
    ++ (all_ears labels
    ++ (flat_map first_columns (accesses labels)
    ++ (flat_map (srv_columns labels) (uses labels)
    ++ (all_pas_l labels
    ++ all_pas_s labels)))))))

abbrev pub columns : List Label → List Column
columns labels = map (λ c. c.0) (priced labels)

abbrev pub costs : List Label → List ℕ
costs labels = map (λ c. c.1) (priced labels)
