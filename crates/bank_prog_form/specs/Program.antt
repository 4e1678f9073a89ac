-- The bank program of a form: its columns' costs, and its rows over the columns' numbers.
use Rattle.std.specs.Prelude.{◌≡◌, ℕ, suc, ◌<◌, ◌≤◌, ◌^◌, nat_eq, nat_lt, Bool, true, false, ◌&&◌, List, [], ◌∷◌, map, length, Option, Some, None, ℤ, ◌+ℤ◌, ◌⊎◌, if◌then◌else◌}
use Rattle.ssu_ir.specs.Tree.{Label}
use Rattle.zo_model.specs.Contents.{Contents, RowContents}
use Rattle.bank_prog_form.specs.declared.column.Bank.{Bank}
use Rattle.bank_prog_form.specs.declared.column.Bank.TheVariants.{A, B, M, T, L, A15, W}
use Rattle.bank_prog_form.specs.declared.column.Column.{Column}
use Rattle.bank_prog_form.specs.declared.column.Column.TheVariants.{Def, DirectWrite, Fill, Stay, EarlyWrite, First, Serve, ReadVia, WriteVia}
use Rattle.bank_prog_form.specs.Columns.{columns, costs}
use Rattle.bank_prog_form.specs.Rows.{Line, lines}

-- ---- a column's number is its place among the columns

abbrev pub same_bank : Bank → Bank → Bool
same_bank A A = true
same_bank B B = true
same_bank M M = true
same_bank T T = true
same_bank L L = true
same_bank A15 A15 = true
same_bank W W = true
same_bank _ _ = false

abbrev pub same_column : Column → Column → Bool
same_column (Def x h) (Def y j) = nat_eq x y && same_bank h j
same_column (DirectWrite k i f) (DirectWrite l j g) = nat_eq k l && (nat_eq i j && nat_eq f g)
same_column (Fill x h) (Fill y j) = nat_eq x y && same_bank h j
same_column (Stay x f) (Stay y g) = nat_eq x y && nat_eq f g
same_column (EarlyWrite k i f) (EarlyWrite l j g) = nat_eq k l && (nat_eq i j && nat_eq f g)
same_column (First k f) (First l g) = nat_eq k l && nat_eq f g
same_column (Serve k i h p) (Serve l j h' p') = nat_eq k l && (nat_eq i j && (same_bank h h' && same_bank p p'))
same_column (ReadVia k r) (ReadVia l s) = nat_eq k l && nat_eq r s
same_column (WriteVia k r) (WriteVia l s) = nat_eq k l && nat_eq r s
same_column _ _ = false

-- the number of each column that is there
abbrev pub Numbers : Type 0
Numbers = Column → Option ℕ

-- its place in a list, counted from j
abbrev pub number_in : ℕ → List Column → Numbers
number_in j [] c = None
number_in j (d ∷ ds) c = if same_column d c then Some j else number_in (suc j) ds c

-- ---- a row's terms: the columns rise, the terms of one column are added up, and a column that isn't there is left out

abbrev pub Terms : Type 0
Terms = List (ℕ × ℤ)

abbrev pub add_term : ℕ → ℤ → Terms → Terms
add_term j a [] = (j, a) ∷ []
add_term j a (t ∷ ts) = if nat_lt j t.0 then (j, a) ∷ t ∷ ts else (if nat_eq j t.0 then (j, a +ℤ t.1) ∷ ts else t ∷ add_term j a ts)

abbrev pub add_named : Option ℕ → ℤ → Terms → Terms
add_named None a ts = ts
add_named (Some j) a ts = add_term j a ts

abbrev pub terms_of : Numbers → List (Column × ℤ) → Terms
terms_of number [] = []
terms_of number (t ∷ ts) = add_named (number t.0) t.1 (terms_of number ts)

abbrev pub row_of : Numbers → Line → RowContents
row_of number l = record { terms = terms_of number l.terms; least = l.least }

-- ---- the whole

abbrev pub number_of : List Label → Numbers
number_of labels c = number_in 0 (columns labels) c

abbrev pub rows : List Label → ℕ → List RowContents
rows labels slots = map (row_of (number_of labels)) (lines labels slots)

abbrev pub bank_program : List Label → ℕ → Contents
bank_program labels slots = record { costs = costs labels; rows = rows labels slots }

-- ---- its size

-- there are N columns, and more than fit; or the columns fit, and there are N rows, and more than fit
abbrev pub IsTooLarge : List Label → ℕ → ℕ → Type 0
IsTooLarge labels slots n =
    ((n ≡ length (columns labels)) × (2 ^ 26 < n))
    ⊎ ((length (columns labels) ≤ 2 ^ 26) × ((n ≡ length (rows labels slots)) × (2 ^ 26 < n)))
