-- Owners of registers, as the code goes over them.
use Rattle.std.specs.Prelude.{ℕ, suc, ◌+◌, nat_le, nat_lt, ◌&&◌, if◌then◌else◌, Bool, true, false, List, [], ◌∷◌, ◌++◌, Option, Some, None, map}
use Rattle.std.specs.List.{flat_map}
use Rattle.nv_base.specs.Sets.{is_in}
use Rattle.ssu_ir.specs.Tree.{Label}
use Rattle.place_plan.specs.Uses as pure
use Rattle.bank_prog_form.specs.declared.column.Column.{Column}
use Rattle.bank_prog_form.specs.declared.column.Column.TheVariants.{First, ReadVia}
use Rattle.bank_prog_form.specs.Columns.{origin_of, eight}
use Rattle.bank_prog_form.specs.Rows.{Line, at_most, origin_stays, stays_at, is_sdram, covering, access_owners}
use Rattle.bank_prog_form.specs.inner.Form.{Part}

abbrev pub one : Option ℕ → List ℕ
one (Some f) = f ∷ []
one None = []

-- the column that a value stays in register r
abbrev pub value_stays : List Label → Bool → ℕ → ℕ → List Column
value_stays labels sdram r x = origin_stays sdram r x (origin_of labels x)

abbrev pub read_owner : List Label → ℕ → List ℕ → ℕ → List Line
read_owner labels k xs r = at_most 1 (stays_at labels false r xs ++ ReadVia k r ∷ []) ∷ []

abbrev pub sdram_owner : List Label → List ℕ → ℕ → List Line
sdram_owner labels xs r = at_most 1 (stays_at labels true r xs) ∷ []

-- the read registers of a point, where these values are held
abbrev pub row_owners : List Label → ℕ → List ℕ → List Line
row_owners labels k xs = flat_map (read_owner labels k xs) eight ++ flat_map (sdram_owner labels xs) eight

-- f of each row; they are numbered from k
abbrev pub each_row : (ℕ → List ℕ → List Line) → ℕ → List (List ℕ) → List Line
each_row f k [] = []
each_row f k (r ∷ rs) = f k r ++ each_row f (suc k) rs

-- ---- reads

-- a value, where it isn't among others
abbrev pub other : List ℕ → ℕ → List ℕ
other gone x = if is_in x gone then [] else x ∷ []

-- the run of an access that begins at f covers r
abbrev pub covers_at : pure.Access → ℕ → ℕ → Bool
covers_at a r f = nat_le f r && nat_lt r (f + a.words)

abbrev pub covering_at : pure.Access → ℕ → ℕ → List Column
covering_at a r f = if covers_at a r f then First a.point f ∷ [] else []

abbrev pub access_owner : List Label → List ℕ → pure.Access → ℕ → List Line
access_owner labels xs a r = at_most 1 (stays_at labels (is_sdram a.mem) r xs ++ covering r a) ∷ []

-- the rows of a point, where these values are live at the next
abbrev pub part_fills : List Label → Part → List ℕ → List Line
part_fills labels p next = flat_map (access_owners labels (flat_map (other (map (λ v. v.var) p.values)) next)) p.reads

abbrev pub first_row : List (List ℕ) → List ℕ
first_row [] = []
first_row (r ∷ rs) = r

abbrev pub rest : List (List ℕ) → List (List ℕ)
rest [] = []
rest (r ∷ rs) = rs

-- of all points, where these are the rows from the second point on
abbrev pub fills : List Label → List Part → List (List ℕ) → List Line
fills labels [] rows = []
fills labels (p ∷ ps) rows = part_fills labels p (first_row rows) ++ fills labels ps (rest rows)
