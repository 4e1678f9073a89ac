-- Words that wait in write registers, as the code goes over them.
use Rattle.std.specs.Prelude.{ℕ, zero, suc, ◌+◌, nat_eq, nat_lt, nat_le, ◌&&◌, if◌then◌else◌, slice_index_or, Option, Some, None, Bool, true, false, List, [], ◌∷◌, ◌++◌, map, filter}
use Rattle.std.specs.List.{flat_map}
use Rattle.std.specs.declared.vec.Vec.{Vec}
use Rattle.std.specs.declared.alloc.Global.{Global}
use Rattle.ssu_ir.specs.Tree.{Label, Does, Forks, Ends}
use Rattle.ssu_ir.specs.Points.{PointKind, Entry, At, Point, points}
use Rattle.place_plan.specs.Uses as pure
use Rattle.bank_prog_form.specs.declared.column.Column.{Column}
use Rattle.bank_prog_form.specs.declared.column.Column.TheVariants.{WriteVia}
use Rattle.place_plan.specs.declared.uses.Use.{Use}
use Rattle.place_plan.specs.inner.UseViews.{use_view}
use Rattle.bank_prog_form.specs.Columns.{eight}
use Rattle.bank_prog_form.specs.Rows.{Line, at_most, role_early, early_at, side_covering, waiting, is_written}
use Rattle.bank_prog_form.specs.inner.Form.{Part}

-- the written words that wait at each point
abbrev pub waiting_from : List Label → ℕ → List Point → List (List pure.Use)
waiting_from labels k [] = []
waiting_from labels k (q ∷ ps) = filter (λ u. is_written u.role) (waiting labels k q) ∷ waiting_from labels (suc k) ps

abbrev pub all_waiting : List Label → List (List pure.Use)
all_waiting labels = waiting_from labels 0 (points labels)

abbrev pub lists_of : List (Vec Use Global) → List (List pure.Use)
lists_of vs = map (λ v. map use_view v.items) vs

abbrev pub word_early : Bool → ℕ → pure.Use → List Column
word_early sdram r u = role_early sdram r u.point u.operand u.role

abbrev pub write_owner : ℕ → List pure.Use → List pure.Access → ℕ → List Line
write_owner k us as' r = at_most 1 (early_at false r us ++ ((WriteVia k r ∷ []) ++ flat_map (side_covering false r) as')) ∷ []

abbrev pub sdram_write_owner : List pure.Use → List pure.Access → ℕ → List Line
sdram_write_owner us as' r = at_most 1 (early_at true r us ++ ([] ++ flat_map (side_covering true r) as')) ∷ []

-- the write registers of a point, where these words wait
abbrev pub part_writes : Part → List pure.Use → List Line
part_writes p us = flat_map (write_owner p.point us p.writes) eight ++ flat_map (sdram_write_owner us p.writes) eight

abbrev pub first_list : List (List pure.Use) → List pure.Use
first_list [] = []
first_list (us ∷ rest) = us

abbrev pub rest_lists : List (List pure.Use) → List (List pure.Use)
rest_lists [] = []
rest_lists (us ∷ rest) = rest

abbrev pub writes : List Part → List (List pure.Use) → List Line
writes [] lists = []
writes (p ∷ ps) lists = part_writes p (first_list lists) ++ writes ps (rest_lists lists)

-- ---- where values are defined

-- the point of the first of these values that has the variable
abbrev pub point_in : List pure.Value → ℕ → Option ℕ
point_in [] x = None
point_in (v ∷ vs) x = if nat_eq v.var x then Some v.point else point_in vs x

-- whether that point is this one or has it below
abbrev pub covers : (ℕ → ℕ) → Option ℕ → ℕ → Bool
covers below None k = false
covers below (Some d) k = nat_le d k && nat_le k (d + below d)

abbrev pub read_from : List ℕ → ℕ → ℕ
read_from below k = slice_index_or below k 0

-- whether point k has another below
abbrev pub is_below : (ℕ → ℕ) → ℕ → ℕ → Bool
is_below below k point = nat_lt k point && nat_le point (k + below k)

-- a written word that waits at point k
abbrev pub waits_by : List ℕ → (ℕ → Option ℕ) → ℕ → pure.Use → Bool
waits_by below point k u = is_written u.role && (covers (read_from below) (point u.value) k && is_below (read_from below) k u.point)

abbrev pub written_only : pure.Use → List pure.Use
written_only u = if is_written u.role then u ∷ [] else []

abbrev pub kept_waiting : List ℕ → (ℕ → Option ℕ) → ℕ → pure.Use → List pure.Use
kept_waiting below point k u = if waits_by below point k u then u ∷ [] else []

-- of each of so many points, from k on, the words that wait
abbrev pub each_waiting : {V : Type 0} → List ℕ → (ℕ → Option ℕ) → List pure.Use → ℕ → List V → List (List pure.Use)
each_waiting below point us k [] = []
each_waiting below point us k (x ∷ xs) = flat_map (kept_waiting below point k) us ∷ each_waiting below point us (suc k) xs

-- ---- how many points lie below each

-- how many nodes follow directly
abbrev pub arms : PointKind → ℕ
arms (Entry l params) = 1
arms (At (Does s)) = 1
arms (At (Forks c x y)) = 2
arms (At (Ends l)) = 0

-- by those of the points after it
abbrev pub below_at : ℕ → (ℕ → ℕ) → ℕ → ℕ
below_at zero below k = 0
below_at (suc zero) below k = 1 + below (k + 1)
below_at (suc (suc n)) below k = 2 + (below (k + 1) + below (k + 2 + below (k + 1)))
